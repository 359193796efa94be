-- Comments and the head line, cut line by line.
use Rattle.std.proofs.Common.{◌≡◌, ℕ, ◌<◌, ◌≤◌, Bool, true, false, ◌||◌, eqb, List, [], ◌∷◌, ◌++◌, get_or, Some, None, decimal, sym, refl, ap, ◌∙◌, subst, append_assoc, arith}
use Rattle.std.specs.Char.{is_ascii_digit}
use Rattle.std.specs.List.{AllByRecursion}
use Rattle.std.specs.Str.{all_ascii_digits}
use Rattle.std.proofs.lemmas.List.{append_cancel_left}
use Rattle.std.proofs.lemmas.Bool.{or_from, or_left, or_parts, and_parts, eq-eqb, ne_eqb, leb-true, both_ways}
use Rattle.rules.specs.Lists.{has}
use Rattle.lines.specs.Cut.{Unended, Cut, ended}
use Rattle.lines.specs.Numbers.{size_of}
use Rattle.lines.proofs.Cuts.{has_append}
use Rattle.lines.proofs.Digits.{never}
use Rattle.lines.proofs.Numerals.{digits_of, size_only, size_back}
use Rattle.view.specs.Format.{comment, head_mark, head_line, top, Headed}
use Rattle.lines.specs.Cut.{CutAt}
use Rattle.view.specs.Reads.{ReadsHead, Unheaded}

-- the first place of a byte

apart : (s : ℕ) (x : ℕ) (xs ys : List ℕ) → x ≡ s → has s (x ∷ xs) ≡ false → ⊥
apart s x xs ys e h = both_ways (has s (x ∷ xs)) h (or_left (eqb s x) (has s xs) (eq-eqb s x (sym e)))

pub once_cut : (s : ℕ) (a b c d : List ℕ) → has s a ≡ false → has s c ≡ false → a ++ (s ∷ b) ≡ c ++ (s ∷ d) → (a ≡ c) × (b ≡ d)
once_cut s [] b [] d h k e = (refl, cc)
once_cut s [] b (y ∷ c) d h k e = let p : s ≡ y = cc in absurd (apart s y c [] (sym p) k)
once_cut s (x ∷ a) b [] d h k e = let p : x ≡ s = cc in absurd (apart s x a [] p h)
once_cut s (x ∷ a) b (y ∷ c) d h k e =
    let p : x ≡ y = cc in
    let q : a ++ (s ∷ b) ≡ c ++ (s ∷ d) = cc in
    let r = once_cut s a b c d (or_parts (eqb s x) (has s a) h).1 (or_parts (eqb s y) (has s c) k).1 q in
    (ap (λ z. z ∷ a) p ∙ ap (λ z. y ∷ z) r.0, r.1)

pub cut_once : (t k l r u : List ℕ) → Cut t k r → Cut t l u → (k ≡ l) × (r ≡ u)
cut_once t k l r u a b = once_cut 10 k r l u a.inside b.inside (sym a.parts ∙ b.parts)

has_end : (s : ℕ) (a b : List ℕ) → has s (a ++ (s ∷ b)) ≡ true
has_end s [] b = or_left (eqb s s) (has s b) (eq-eqb s s refl)
has_end s (x ∷ a) b = has_later (eqb s x) (has_end s a b)
  where
    has_later : (t : Bool) → has s (a ++ (s ∷ b)) ≡ true → (t || has s (a ++ (s ∷ b))) ≡ true
    has_later true h = refl
    has_later false h = h

-- digits hold neither a space nor a line end
digit_apart : (s b : ℕ) → s < 48 → is_ascii_digit b ≡ true → eqb s b ≡ false
digit_apart s b l h =
    let low : 48 ≤ b = leb-true 48 b (and_parts _ _ h).0 in
    ne_eqb s b (λ e. omega arith)

clear_digits : (s : ℕ) (ds : List ℕ) → s < 48 → all_ascii_digits ds ≡ true → has s ds ≡ false
clear_digits s [] l h = refl
clear_digits s (d ∷ ds) l h = let p = and_parts (is_ascii_digit d) (all_ascii_digits ds) h in or_from (eqb s d) (has s ds) (digit_apart s d l p.0) (clear_digits s ds l p.1)

pub clear_decimal : (s n : ℕ) → s < 48 → n ≤ 999999 → has s (decimal n) ≡ false
clear_decimal s n l h = clear_digits s (decimal n) l (digits_of n (omega arith)).1

pub clear_head : (v c : ℕ) → v ≤ 999999 → c ≤ 999999 → Unended (head_line v c)
clear_head v c hv hc = has_append 10 (decimal v) (32 ∷ decimal c) (clear_decimal 10 v (omega arith) hv) (clear_decimal 10 c (omega arith) hc)

-- by the first line

line_first : (l : List ℕ) (ls : List (List ℕ)) (t : List ℕ) → ended (l ∷ ls) ++ t ≡ l ++ (10 ∷ (ended ls ++ t))
line_first l ls t = append_assoc (l ++ (10 ∷ [])) (ended ls) t ∙ append_assoc l (10 ∷ []) (ended ls ++ t)

module _ (text : List ℕ) (v c : ℕ) (body : List ℕ) where
  -- a head without comments is the first line
  pub headed_first : v ≤ 999999 → c ≤ 999999 → (line : List ℕ) → Cut text line body → line ≡ head_line v c → Headed text v c body
  headed_first hv hc line cut e = record {
    comments = [];
    whole = tt;
    narrow = hv;
    few = hc;
    is = cut.parts ∙ ap (λ l. l ++ (10 ∷ body)) e ∙ sym (line_first (head_line v c) [] body);
  }

  -- a comment before a headed text
  pub headed_more : (bytes rest : List ℕ) → Cut text (comment bytes) rest → Headed rest v c body → Headed text v c body
  headed_more bytes rest cut h = record {
    comments = bytes ∷ h.comments;
    whole = (cut.inside, h.whole);
    narrow = h.narrow;
    few = h.few;
    is = cut.parts ∙ ap (λ t. comment bytes ++ (10 ∷ t)) h.is ∙ sym (line_first (comment bytes) (top h.comments v c) body);
  }

  -- the first line of a headed text is its head line, or a comment before a headed text
  pub by_first : {P : Type 0} → Headed text v c body → (v ≤ 999999 → c ≤ 999999 → Cut text (head_line v c) body → P) → ((bytes rest : List ℕ) → Cut text (comment bytes) rest → Headed rest v c body → P) → P
  by_first {P} h first more = go h.comments h.whole h.is
    where
      go : (ns : List (List ℕ)) → AllByRecursion Unended ns → text ≡ ended (top ns v c) ++ body → P
      go [] a e = first h.narrow h.few (record { inside = clear_head v c h.narrow h.few; parts = e ∙ line_first (head_line v c) [] body })
      go (n ∷ ns) a e =
          more n (ended (top ns v c) ++ body)
          (record { inside = a.0; parts = e ∙ line_first (comment n) (top ns v c) body })
          (record { comments = ns; whole = a.1; narrow = h.narrow; few = h.few; is = refl })

pub unended_bare : (text : List ℕ) → Unended text → Unheaded text
unended_bare text u v c body h =
    let no : (l r : List ℕ) → Cut text l r → ⊥ = λ l r k. both_ways (has 10 text) u (ap (has 10) k.parts ∙ has_end 10 l r) in
    by_first text v c body h (λ a b k. no (head_line v c) body k) (λ n rest k g. no (comment n) rest k)

module _ (text line rest : List ℕ) (cut : Cut text line rest) where
  -- a comment is passed
  pub past_comment : (bytes : List ℕ) → line ≡ comment bytes → (v c : ℕ) (body : List ℕ) → Headed text v c body → Headed rest v c body
  past_comment bytes e v c body h =
      by_first text v c body h
      (λ a b k. let p = cut_once text line (head_line v c) rest body cut k in let q : 99 ≡ 112 = ap (λ (l : List ℕ). get_or l 0 0) (sym e ∙ p.0) in absurd (omega arith))
      (λ n r k g. subst (λ t. Headed t v c body) (sym (cut_once text line (comment n) rest r cut k).1) g)

  -- a line that is no comment is the head line
  pub at_head : (get_or line 0 0 ≡ 99 → ⊥) → (v c : ℕ) (body : List ℕ) → Headed text v c body → (v ≤ 999999) × (c ≤ 999999) × (line ≡ head_line v c)
  at_head ne v c body h =
      by_first text v c body h
      (λ a b k. (a, b, (cut_once text line (head_line v c) rest body cut k).0))
      (λ n r k g. absurd (ne (ap (λ (l : List ℕ). get_or l 0 0) (cut_once text line (comment n) rest r cut k).0)))

-- a text is headed in one way
pub head_once_at : (v w c d : ℕ) → v ≤ 999999 → c ≤ 999999 → w ≤ 999999 → d ≤ 999999 → head_line v c ≡ head_line w d → (v ≡ w) × (c ≡ d)
head_once_at v w c d hv hc hw hd e =
    let f = append_cancel_left head_mark (decimal v ++ (32 ∷ decimal c)) (decimal w ++ (32 ∷ decimal d)) e in
    let p = once_cut 32 (decimal v) (decimal c) (decimal w) (decimal d) (clear_decimal 32 v (omega arith) hv) (clear_decimal 32 w (omega arith) hw) f in
    (same_decimal v w hv hw p.0, same_decimal c d hc hd p.1)
  where
    some_once : (a b : ℕ) → Some a ≡ Some b → a ≡ b
    some_once a b h = cc

    same_decimal : (a b : ℕ) → a ≤ 999999 → b ≤ 999999 → decimal a ≡ decimal b → a ≡ b
    same_decimal a b ha hb h = some_once a b (sym (size_back 999999 a (omega arith) ha) ∙ ap (size_of 999999) h ∙ size_back 999999 b (omega arith) hb)

pub headed_once : (text : List ℕ) (v w c d : ℕ) (a b : List ℕ) → Headed text v c a → Headed text w d b → (v ≡ w) × (c ≡ d) × (a ≡ b)
headed_once text v w c d a b h k = go text h.comments h.whole h.is k
  where
    go : (t : List ℕ) (ns : List (List ℕ)) → AllByRecursion Unended ns → t ≡ ended (top ns v c) ++ a → Headed t w d b → (v ≡ w) × (c ≡ d) × (a ≡ b)
    go t [] m e g =
        let cut : Cut t (head_line v c) a = record { inside = clear_head v c h.narrow h.few; parts = e ∙ line_first (head_line v c) [] a } in
        by_first t w d b g
        (λ x y q.
        let o = cut_once t (head_line v c) (head_line w d) a b cut q in
        let p = head_once_at v w c d h.narrow h.few x y o.0 in
        (p.0, p.1, o.1))
        (λ n r q f. let z : 112 ≡ 99 = ap (λ (l : List ℕ). get_or l 0 0) (cut_once t (head_line v c) (comment n) a r cut q).0 in absurd (omega arith))
    go t (n ∷ ns) m e g =
        let cut : Cut t (comment n) (ended (top ns v c) ++ a) = record { inside = m.0; parts = e ∙ line_first (comment n) (top ns v c) a } in
        go (ended (top ns v c) ++ a) ns m.1 refl (past_comment t (comment n) (ended (top ns v c) ++ a) cut n refl w d b g)

-- the head line

module _ (line : List ℕ) where
  pub head_unmarked : ((rest : List ℕ) → line ≡ head_mark ++ rest → ⊥) → ReadsHead line None
  head_unmarked none v c hv hc e = none _ e

  module _ (rest : List ℕ) (mark : line ≡ head_mark ++ rest) where
    after_mark : (v c : ℕ) → line ≡ head_line v c → rest ≡ decimal v ++ (32 ∷ decimal c)
    after_mark v c e = append_cancel_left head_mark rest (decimal v ++ (32 ∷ decimal c)) (sym mark ∙ e)

    pub head_unsplit : has 32 rest ≡ false → ReadsHead line None
    head_unsplit h v c hv hc e = both_ways (has 32 rest) h (ap (has 32) (after_mark v c e) ∙ has_end 32 (decimal v) (decimal c))

    module _ (front back : List ℕ) (s : CutAt 32 rest front back) where
      parts_are : (v c : ℕ) → v ≤ 999999 → line ≡ head_line v c → (front ≡ decimal v) × (back ≡ decimal c)
      parts_are v c hv e = once_cut 32 front back (decimal v) (decimal c) s.inside (clear_decimal 32 v (omega arith) hv) (sym s.parts ∙ after_mark v c e)

      not_size : (ds : List ℕ) (n : ℕ) → n ≤ 999999 → None ≡ size_of 999999 ds → ds ≡ decimal n → ⊥
      not_size ds n l h e = let q : None ≡ Some n = h ∙ ap (size_of 999999) e ∙ size_back 999999 n (omega arith) l in never (cc)

      pub head_front : None ≡ size_of 999999 front → ReadsHead line None
      head_front h v c hv hc e = not_size front v hv h (parts_are v c hv e).0

      pub head_back : None ≡ size_of 999999 back → ReadsHead line None
      head_back h v c hv hc e = not_size back c hc h (parts_are v c hv e).1

      pub head_read : (v c : ℕ) → Some v ≡ size_of 999999 front → Some c ≡ size_of 999999 back → ReadsHead line (Some (v, c))
      head_read v c f b =
          let p = size_only 999999 front v (omega arith) (sym f) in
          let q = size_only 999999 back c (omega arith) (sym b) in
          (p.1, q.1, mark ∙ ap (λ t. head_mark ++ t) (s.parts ∙ ap (λ t. t ++ (32 ∷ back)) p.0 ∙ ap (λ t. decimal v ++ (32 ∷ t)) q.0))

-- a turn of the front

module _ (text left line rest : List ℕ) (cut : Cut left line rest) (to : (v c : ℕ) (body : List ℕ) → Headed text v c body → Headed left v c body) (from : (v c : ℕ) (body : List ℕ) → Headed left v c body → Headed text v c body) where
  module _ (first : get_or line 0 0 ≡ 99) where
    begins : (l : List ℕ) → get_or l 0 0 ≡ 99 → (bytes : List ℕ) × (l ≡ comment bytes)
    begins [] e = absurd (omega arith)
    begins (b ∷ bs) e = (bs, ap (λ x. x ∷ bs) e)

    pub front_more : ((v c : ℕ) (body : List ℕ) → Headed text v c body → Headed rest v c body) × ((v c : ℕ) (body : List ℕ) → Headed rest v c body → Headed text v c body)
    front_more =
        let b = begins line first in (
          λ v c body h. past_comment left line rest cut b.0 b.1 v c body (to v c body h),
          λ v c body h. from v c body (headed_more left v c body b.0 rest (subst (λ l. Cut left l rest) b.1 cut) h),
        )

  module _ (other : get_or line 0 0 ≡ 99 → ⊥) where
    pub front_none : ReadsHead line None → Unheaded text
    front_none none v c body h = let a = at_head left line rest cut other v c body (to v c body h) in none v c a.0 a.1 a.2

  pub front_read : (v c : ℕ) → ReadsHead line (Some (v, c)) → Headed text v c rest
  front_read v c r = from v c rest (headed_first left v c rest r.0 r.1 line cut r.2)

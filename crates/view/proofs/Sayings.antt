-- A text is granted exactly where it is a rendering.
use Rattle.std.proofs.Common.{◌≡◌, ℕ, suc, ◌≤◌, true, false, eqb, ltb, List, [], ◌∷◌, ◌++◌, map, length, ℤ, pos, negsuc, nat_abs, decimal, sym, refl, ap, ◌∙◌, subst, append_assoc, arith}
use Rattle.std.specs.Char.{is_ascii_digit}
use Rattle.std.specs.Fmt.{signed_decimal}
use Rattle.std.specs.List.{AllByRecursion}
use Rattle.std.specs.Str.{all_ascii_digits}
use Rattle.std.proofs.lemmas.Fmt.{decimal_digit}
use Rattle.std.proofs.lemmas.List.{map-append}
use Rattle.std.proofs.lemmas.Bool.{and_parts, or_from, or_parts, ltb-false, ne_eqb, leb-true, both_ways}
use Rattle.rules.specs.Lists.{any, each}
use Rattle.rules.specs.Clauses.{Clause, bad_literal, bad_clause}
use Rattle.clauses.specs.Rows.{flat}
use Rattle.text.specs.Lines.{literal_text, line_text, lines_text}
use Rattle.lines.proofs.Numerals.{digits_of}
use Rattle.view.specs.Body.{clauses_of, completes, shuts}
use Rattle.view.specs.Bounds.{none_bad_within}
use Rattle.view.specs.Format.{Headed, spaced, Gaps, Rendering, SaysOnce, Writable, written, WrittenSays}
use Rattle.view.specs.Reads.{Unheaded}
use Rattle.view.specs.Words.{gap, words_of}
use Rattle.view.proofs.Spaces.{Word, words_word, words_spaced, spaces}
use Rattle.view.proofs.Tops.{headed_once}
use Rattle.view.proofs.Bodies.{Said, said, said_completes, said_parse, said_shuts, goods}

-- what is written of a number is a word

digit_no_gap : (b : ℕ) → is_ascii_digit b ≡ true → gap b ≡ false
digit_no_gap b h =
    let low : 48 ≤ b = leb-true 48 b (and_parts _ _ h).0 in
    or_from (eqb b 32) (eqb b 10) (ne_eqb b 32 (λ e. omega arith)) (ne_eqb b 10 (λ e. omega arith))

clear : (ds : List ℕ) → all_ascii_digits ds ≡ true → AllByRecursion (λ b. gap b ≡ false) ds
clear [] h = tt
clear (b ∷ bs) h = let q = and_parts (is_ascii_digit b) (all_ascii_digits bs) h in (digit_no_gap b q.0, clear bs q.1)

word_decimal : (n : ℕ) → n ≤ 999999 → Word (decimal n)
word_decimal n small = let d = digits_of n (omega arith) in (d.0, clear (decimal n) d.1)

word_signed : (z : ℤ) → nat_abs z ≤ 999999 → Word (signed_decimal z)
word_signed (pos n) small = word_decimal n small
word_signed (negsuc n) small = (omega arith, (refl, (word_decimal (suc n) small).1))

size : (l : ℤ) (c : Clause) → any (bad_literal 999999) (l ∷ c) ≡ false → (nat_abs l ≤ 999999) × (any (bad_literal 999999) c ≡ false)
size l c h =
    let p = or_parts (bad_literal 999999 l) (any (bad_literal 999999) c) h in
    (ltb-false 999999 (nat_abs l) (or_parts (eqb (nat_abs l) 0) (ltb 999999 (nat_abs l)) p.0).1, p.1)

clause_words : (c rest : List ℤ) → any (bad_literal 999999) c ≡ false → AllByRecursion Word (map signed_decimal rest) → AllByRecursion Word (map signed_decimal (c ++ (pos 0 ∷ rest)))
clause_words [] rest h a = (word_signed (pos 0) (omega arith), a)
clause_words (l ∷ c) rest h a = let s = size l c h in (word_signed l s.0, clause_words c rest s.1 a)

all_words : (cs : List Clause) → any (bad_clause 999999) cs ≡ false → AllByRecursion Word (map signed_decimal (flat cs))
all_words [] h = tt
all_words (c ∷ cs) h = let g = goods 999999 c cs h in clause_words c (flat cs) g.1 (all_words cs g.2)

-- a rendering has a head, and its body says the clauses
pub rendering_said : (text : List ℕ) (v : ℕ) (cs : List Clause) (r : Rendering text v cs) → Said v (length cs) (words_of r.body) cs
rendering_said text v cs r = record {
  written = ap words_of r.is ∙ words_spaced 0 r.gaps (map signed_decimal (flat cs)) r.apart (all_words cs (none_bad_within v cs r.headed.narrow r.none_bad));
  counted = refl;
  none_bad = r.none_bad;
}

-- and a headed text whose body says clauses is a rendering
said_rendering : (text : List ℕ) (v count : ℕ) (body : List ℕ) (cs : List Clause) → Headed text v count body → Said v count (words_of body) cs → Rendering text v cs
said_rendering text v count body cs h s =
    let g = spaces body in
    record {
      body = body;
      headed = subst (λ n. Headed text v n body) (sym s.counted) h;
      none_bad = s.none_bad;
      gaps = g.0;
      apart = subst (Gaps 0 g.0) s.written g.2;
      is = g.1 ∙ ap (spaced g.0) s.written;
    }

-- what a view over a granted body has
pub record Viewed (text : List ℕ) (v count : ℕ) (body : List ℕ) : Type 0 where
  pub renders : Rendering text v (clauses_of body)
  pub counted : count ≡ length (clauses_of body)
  pub granted : any (bad_clause v) (clauses_of body) ≡ false
  pub closed : shuts true (words_of body) ≡ true

module _ (text : List ℕ) (v count : ℕ) (body : List ℕ) (h : Headed text v count body) where
  pub viewed : completes v count 0 0 (words_of body) ≡ true → Viewed text v count body
  viewed e =
      let q = said v count (words_of body) h.narrow e in
      let cs = q.0 in
      let s = q.1 in
      let is : cs ≡ clauses_of body = sym (said_parse v count (words_of body) cs h.narrow s) in
      record {
        renders = subst (Rendering text v) is (said_rendering text v count body cs h s);
        counted = sym s.counted ∙ ap length is;
        granted = ap (any (bad_clause v)) (sym is) ∙ s.none_bad;
        closed = said_shuts v count (words_of body) cs s;
      }

  pub refused : completes v count 0 0 (words_of body) ≡ false → (w : ℕ) (cs : List Clause) → Rendering text w cs → ⊥
  refused e w cs r =
      let o = headed_once text v w count (length cs) body r.body h r.headed in
      both_ways (completes v count 0 0 (words_of body)) e
      (ap (λ k. completes k count 0 0 (words_of body)) o.0
      ∙ ap (λ k. completes w k 0 0 (words_of body)) o.1
      ∙ ap (λ b. completes w (length cs) 0 0 (words_of b)) o.2
      ∙ said_completes w (length cs) (words_of r.body) cs r.headed.narrow (rendering_said text w cs r))

pub unheaded_refused : (text : List ℕ) → Unheaded text → (w : ℕ) (cs : List Clause) → Rendering text w cs → ⊥
unheaded_refused text u w cs r = u w (length cs) r.body r.headed

-- one V and one list of clauses

pub rendering_is : (text : List ℕ) (v : ℕ) (cs : List Clause) (r : Rendering text v cs) → clauses_of r.body ≡ cs
rendering_is text v cs r = said_parse v (length cs) (words_of r.body) cs r.headed.narrow (rendering_said text v cs r)

pub says_once_lem : SaysOnce
says_once_lem text v w cs ds r s =
    let o = headed_once text v w (length cs) (length ds) r.body s.body r.headed s.headed in
    (o.0, sym (rendering_is text v cs r) ∙ ap clauses_of o.2 ∙ rendering_is text w ds s)

-- what is written

line_cons : (l : ℤ) (c : Clause) (ys : List ℕ) → line_text (l ∷ c) ++ ys ≡ signed_decimal l ++ (32 ∷ (line_text c ++ ys))
line_cons l c ys =
    ap (λ bs. bs ++ ys) (append_assoc (literal_text l) (each literal_text c) (48 ∷ 10 ∷ []))
    ∙ append_assoc (literal_text l) (line_text c) ys
    ∙ append_assoc (signed_decimal l) (32 ∷ []) (line_text c ++ ys)

words_line : (c : Clause) (ys : List ℕ) → any (bad_literal 999999) c ≡ false → words_of (line_text c ++ ys) ≡ map signed_decimal c ++ (signed_decimal (pos 0) ∷ words_of ys)
words_line [] ys h = ap (λ w. w ∷ words_of ys) (sym (decimal_digit 0 (omega arith)))
words_line (l ∷ c) ys h =
    let s = size l c h in
    ap words_of (line_cons l c ys)
    ∙ words_word (signed_decimal l) (32 ∷ (line_text c ++ ys)) (word_signed l s.0) refl
    ∙ ap (λ ws. signed_decimal l ∷ ws) (words_line c ys s.1)

words_lines : (cs : List Clause) → any (bad_clause 999999) cs ≡ false → words_of (lines_text cs) ≡ map signed_decimal (flat cs)
words_lines [] h = refl
words_lines (c ∷ cs) h =
    let g = goods 999999 c cs h in
    words_line c (lines_text cs) g.1 ∙ ap (λ ws. map signed_decimal c ++ (signed_decimal (pos 0) ∷ ws)) (words_lines cs g.2) ∙ sym (map-append signed_decimal c (pos 0 ∷ flat cs))

pub written_says_lem : WrittenSays
written_says_lem v cs w =
    said_rendering (written v cs) v (length cs) (lines_text cs) cs
    (record { comments = []; whole = tt; narrow = w.narrow; few = w.few; is = refl })
    (record { written = words_lines cs (none_bad_within v cs w.narrow w.none_bad); counted = refl; none_bad = w.none_bad })

pub read_back : (text : List ℕ) (w : ℕ) (ds : List Clause) → Rendering text w ds → (v : ℕ) (cs : List Clause) → Writable v cs → text ≡ written v cs → (w ≡ v) × (ds ≡ cs)
read_back text w ds r v cs k e = says_once_lem text w v ds cs r (subst (λ t. Rendering t v cs) (sym e) (written_says_lem v cs k))

pub never_refused : (text : List ℕ) → ((w : ℕ) (ds : List Clause) → Rendering text w ds → ⊥) → (v : ℕ) (cs : List Clause) → Writable v cs → text ≡ written v cs → ⊥
never_refused text none v cs k e = none v cs (subst (λ t. Rendering t v cs) (sym e) (written_says_lem v cs k))

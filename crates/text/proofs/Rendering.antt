-- Lines of text, as a sink keeps them.
use Rattle.std.proofs.Common.{◌≡◌, ℕ, zero, suc, ◌+◌, ◌-◌, ◌<◌, ◌≤◌, Bool, true, false, cond, eqb, ltb, List, [], ◌∷◌, ◌++◌, length, get_or, take, drop, pos, sym, refl, ap, ◌∙◌, subst, arith}
use Rattle.std.proofs.lemmas.List.{length-append, length-take-le, append_assoc, append-nil, take_more, take_rest, length-drop, drop-drop}
use Rattle.std.proofs.lemmas.Bool.{or_parts, cond-false, cond_both}
use Rattle.rules.specs.Lists.{any, each}
use Rattle.rules.specs.Clauses.{Clause, bad_clause, total}
use Rattle.clauses.specs.Rows.{parse}
use Rattle.clauses.proofs.Rows.{count_le}
use Rattle.clauses.proofs.Granting.{none_bad_push}
use Rattle.text.specs.Lines.{literal_text, line_text, lines_text, text_cost}
use Rattle.text.specs.Scan.{longer, signed_by, scan, numbers}
use Rattle.text.specs.Words.{Shut}
use borrow.Rule.Slice.PartMut.{put_mid}
use Rattle.text.proofs.Scanning.{back, shut_lines}
use Rattle.text.proofs.Tails.{tail_long, tail_take, tail_drop}

each_push : {X Y : Type 0} (g : X → List Y) (xs : List X) (x : X) → each g (xs ++ (x ∷ [])) ≡ each g xs ++ g x
each_push g [] x = append-nil (g x)
each_push g (y ∷ xs) x = ap (λ ys. g y ++ ys) (each_push g xs x) ∙ sym (append_assoc (g y) (each g xs) (g x))

pub literals_more : (c : Clause) (i : ℕ) → i < length c → each literal_text (take (i + 1) c) ≡ each literal_text (take i c) ++ literal_text (get_or c i (pos 0))
literals_more c i h = ap (each literal_text) (take_more c i (pos 0) h) ∙ each_push literal_text (take i c) (get_or c i (pos 0))

pub literals_within : (c : Clause) (k : ℕ) → length (each literal_text (take k c)) ≤ length (each literal_text c)
literals_within [] zero = omega arith
literals_within [] (suc k) = omega arith
literals_within (l ∷ c) zero = omega arith
literals_within (l ∷ c) (suc k) = omega (arith, length-append (literal_text l) (each literal_text (take k c)), length-append (literal_text l) (each literal_text c), literals_within c k)

total_lines : (cs : List Clause) → any (bad_clause 999999) cs ≡ false → total text_cost cs ≡ length (lines_text cs)
total_lines [] h = refl
total_lines (c ∷ cs) h =
    let p = or_parts (bad_clause 999999 c) (any (bad_clause 999999) cs) h in
    omega (arith, cond-false (bad_clause 999999 c) 0 (length (line_text c)) p.0, length-append (line_text c) (lines_text cs), total_lines cs p.1)

-- what the bytes in use cost
pub spent : (bs : List ℕ) (used : ℕ) → used ≤ length bs → lines_text (parse (numbers (take used bs))) ≡ take used bs → any (bad_clause 999999) (parse (numbers (take used bs))) ≡ false → total text_cost (parse (numbers (take used bs))) ≡ used
spent bs used h e g = total_lines (parse (numbers (take used bs))) g ∙ ap length e ∙ length-take-le used bs h

pub shut : (text : List ℕ) → lines_text (parse (numbers text)) ≡ text → any (bad_clause 999999) (parse (numbers text)) ≡ false → Shut text
shut text e g = subst Shut e (shut_lines (parse (numbers text)) g)

-- a line more
pub record More (old text : List ℕ) (c : Clause) : Type 0 where
  pub holds : parse (numbers text) ≡ parse (numbers old) ++ (c ∷ [])
  pub renders : lines_text (parse (numbers text)) ≡ text
  pub none_bad : any (bad_clause 999999) (parse (numbers text)) ≡ false

pub line_more : (old text : List ℕ) (c : Clause) → lines_text (parse (numbers old)) ≡ old → any (bad_clause 999999) (parse (numbers old)) ≡ false → bad_clause 999999 c ≡ false → text ≡ old ++ line_text c → More old text c
line_more old text c e g b is =
    let cs = parse (numbers old) in
    let none = none_bad_push 999999 cs c g b in
    let whole : lines_text (cs ++ (c ∷ [])) ≡ text = each_push line_text cs c ∙ ap (λ bs. bs ++ line_text c) e ∙ sym is in
    let holds : parse (numbers text) ≡ cs ++ (c ∷ []) = ap (λ bs. parse (numbers bs)) (sym whole) ∙ back (cs ++ (c ∷ [])) none in
    record { holds = holds; renders = ap lines_text holds ∙ whole; none_bad = ap (any (bad_clause 999999)) holds ∙ none }

scan_le : (m : Bool) (a : ℕ) (bs : List ℕ) → length (scan m a bs) ≤ length bs
scan_le m a [] = omega arith
scan_le m a (b ∷ bs) =
    let one = scan_le false 0 bs in
    let two = scan_le true a bs in
    let three = scan_le m (longer a b) bs in
    cond_both (ltb b 33) (signed_by m a ∷ scan false 0 bs) (cond (eqb b 45) (scan true a bs) (scan m (longer a b) bs)) (λ ws. length ws ≤ length (b ∷ bs))
    (λ e. omega arith)
    (λ e. cond_both (eqb b 45) (scan true a bs) (scan m (longer a b) bs) (λ ws. length ws ≤ length (b ∷ bs)) (λ f. omega arith) (λ f. omega arith))

-- no more clauses than bytes
pub few : (bs : List ℕ) (used : ℕ) → used ≤ length bs → length (parse (numbers (take used bs))) ≤ used
few bs used h = omega (arith, count_le (numbers (take used bs)), scan_le false 0 (take used bs), length-take-le used bs h)

pub drop_later : {X : Type 0} (xs ys : List X) (n k : ℕ) → drop n xs ≡ drop n ys → n ≤ k → drop k xs ≡ drop k ys
drop_later xs ys n k e l =
    let m : n + (k - n) ≡ k = omega arith in
    ap (λ j. drop j xs) (sym m) ∙ sym (drop-drop (k - n) n xs) ∙ ap (drop (k - n)) e ∙ drop-drop (k - n) n ys ∙ ap (λ j. drop j ys) m

pub room_here : (used : ℕ) (c : Clause) (i size : ℕ) → i < length c → used + length (line_text c) ≤ size → used + length (each literal_text (take i c)) + length (literal_text (get_or c i (pos 0))) ≤ size
room_here used c i size h l =
    omega (
      arith,
      ap length (literals_more c i h),
      length-append (each literal_text (take i c)) (literal_text (get_or c i (pos 0))),
      literals_within c (i + 1),
      length-append (each literal_text c) (48 ∷ 10 ∷ []),
    )

-- the line of c, n bytes, is written after the bytes in use
pub record Put (used : ℕ) (ws : List ℕ) (c : Clause) (n : ℕ) (rs : List ℕ) : Type 0 where
  pub long : length rs ≡ length ws
  pub within : used + n ≤ length rs
  pub more : More (take used ws) (take (used + n) rs) c
  pub rest : drop (used + n) rs ≡ drop n (drop used ws)

pub put_line : (used : ℕ) (ws ys : List ℕ) (c : Clause) (n : ℕ) → used ≤ length ws → lines_text (parse (numbers (take used ws))) ≡ take used ws → any (bad_clause 999999) (parse (numbers (take used ws))) ≡ false → bad_clause 999999 c ≡ false → n ≤ length ws - used → length ys ≡ length (take (length ws - used) (drop used ws)) → take n ys ≡ line_text c → drop n ys ≡ drop n (take (length ws - used) (drop used ws)) → Put used ws c n (put_mid used (length ws - used) ws ys)
put_line used ws ys c n in-ws e g b room long line rest =
    let tail = take_rest ws used in
    let size = long ∙ ap length tail ∙ length-drop used ws in
    let whole = tail_long ws ys used in-ws size in
    record {
      long = whole;
      within = omega arith;
      more = line_more (take used ws) _ c e g b (tail_take ws ys used in-ws size n ∙ ap (λ bs. take used ws ++ bs) line);
      rest = tail_drop ws ys used in-ws size n (used + n) (omega arith) (rest ∙ ap (drop n) tail) ∙ sym (drop-drop n used ws);
    }

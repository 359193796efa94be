-- Digits, read from the left.
use Rattle.std.proofs.Common.{◌≡◌, ℕ, zero, suc, ◌+◌, ◌-◌, ◌*◌, ◌<◌, ◌≤◌, Bool, true, false, cond, ◌&&◌, leb, List, [], ◌∷◌, length, get_or, take, drop, pos, neg_ℤ, Some, None, sym, refl, ap, ◌∙◌, arith}
use Rattle.std.specs.Str.{all_ascii_digits}
use Rattle.std.proofs.lemmas.List.{at_drop_more, take_rest}
use Rattle.std.proofs.lemmas.Bool.{cond-true, cond-false, and_right, and_parts, lt-leb, leb-true, eq-eqb}
use Rattle.lines.specs.Numbers.{read_on, plain, size_of, below_0, number_of}
use Rattle.lines.specs.Reading.{Reading, ReadsWord}

pub never : {P : Type 0} → ◌≡◌ {A = ℕ} 0 1 → P
never e = absurd (omega arith)

pub read_on_ge : (n : ℕ) (ds : List ℕ) → n ≤ read_on n ds
read_on_ge n [] = omega arith
read_on_ge n (b ∷ bs) = omega (arith, read_on_ge (10 * n + (b - 48)) bs)

-- what the loop keeps
abbrev pub Left : ℕ → List ℕ → ℕ → ℕ → Type 0
Left most ds n i = (read_on 0 ds ≡ read_on n (drop i ds)) × (all_ascii_digits ds ≡ all_ascii_digits (drop i ds)) × (n ≤ most)

module _ (most : ℕ) (ds : List ℕ) (n i : ℕ) (h : Left most ds n i) (lt : i < length ds) where
  read_more : read_on 0 ds ≡ read_on (10 * n + (get_or ds i 0 - 48)) (drop (i + 1) ds)
  read_more = h.0 ∙ at_drop_more (read_on n) ds i 0 lt

  pub too_large : most < 10 * n + (get_or ds i 0 - 48) → None ≡ size_of most ds
  too_large e = sym (cond-false _ _ _ (and_right (plain ds) _ (lt-leb _ _ (omega (arith, read_more, read_on_ge (10 * n + (get_or ds i 0 - 48)) (drop (i + 1) ds))))))

chosen : (t : Bool) (y z : ℕ) → Some z ≡ cond t (Some y) None → (t ≡ true) × (y ≡ z)
chosen true y z h = (refl, cc)
chosen false y z h = never (cc)

pub size_small : (most : ℕ) (ds : List ℕ) (m : ℕ) → Some m ≡ size_of most ds → m ≤ most
size_small most ds m h =
    let c = chosen (plain ds && leb (read_on 0 ds) most) (read_on 0 ds) m h in
    let l : read_on 0 ds ≤ most = leb-true (read_on 0 ds) most (and_parts (plain ds) _ c.0).1 in
    omega arith

-- the rest of a word after its first byte, as the code cuts it
abbrev pub rest_of : List ℕ → List ℕ
rest_of w = take (length w - 1) (drop 1 w)

minus : (most : ℕ) (w : List ℕ) → get_or w 0 0 ≡ 45 → number_of most w ≡ below_0 (size_of most (rest_of w))
minus most [] e = absurd (omega arith)
minus most (b ∷ bs) e = cond-true _ _ _ (eq-eqb b 45 e) ∙ ap (λ x. below_0 (size_of most x)) (sym (take_rest (b ∷ bs) 1))

below_some : (m : ℕ) → 0 < m → below_0 (Some m) ≡ Some (neg_ℤ (pos m))
below_some zero p = absurd (omega arith)
below_some (suc m) p = refl

module _ (most : ℕ) (w : List ℕ) (e : get_or w 0 0 ≡ 45) where
  pub minus_none : None ≡ size_of most (rest_of w) → ReadsWord most w None
  minus_none h = minus most w e ∙ ap below_0 (sym h)

  pub minus_zero : (m : ℕ) → m ≡ 0 → Some m ≡ size_of most (rest_of w) → ReadsWord most w None
  minus_zero m z h = minus most w e ∙ ap below_0 (sym h ∙ ap Some z)

  pub minus_some : (m : ℕ) → 0 < m → Some m ≡ size_of most (rest_of w) → Reading most w (record { minus = true; size = m })
  minus_some m z h = record {
    is = minus most w e ∙ ap below_0 (sym h) ∙ below_some m z;
    small = size_small most (rest_of w) m h;
    some = λ _. z;
  }

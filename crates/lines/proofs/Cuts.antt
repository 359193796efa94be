-- Where a text is cut.
use Rattle.std.proofs.Common.{◌≡◌, ℕ, suc, ◌+◌, ◌-◌, ◌<◌, false, eqb, List, [], ◌∷◌, ◌++◌, length, get_or, take, drop, Some, None, refl, sym, ap, ◌∙◌, arith}
use Rattle.std.specs.List.{position}
use Rattle.std.proofs.lemmas.Grind.{common_steps}
use Rattle.std.proofs.lemmas.List.{take-append-drop, drop_more, take_rest}
use Rattle.std.proofs.lemmas.List.Quantifiers.{position-Some}
use Rattle.std.proofs.lemmas.List.Sums.{fails_before_first}
use Rattle.std.proofs.lemmas.Bool.{or_from, or_parts, eqb-true}
use Rattle.rules.specs.Lists.{has}
use Rattle.lines.specs.Cut.{CutAt}

pub has_append : (n : ℕ) (xs ys : List ℕ) → has n xs ≡ false → has n ys ≡ false → has n (xs ++ ys) ≡ false
has_append n [] ys h k = k
has_append n (x ∷ xs) ys h k = let p = or_parts (eqb n x) (has n xs) h in or_from (eqb n x) _ p.0 (has_append n xs ys p.1 k)

swap : (a b : ℕ) → eqb a b ≡ false → eqb b a ≡ false
swap a b h = grind (arith, common_steps)

has_none : (at : ℕ) (bs : List ℕ) → ((k : ℕ) → k < length bs → eqb (get_or bs k 0) at ≡ false) → has at bs ≡ false
has_none at [] h = refl
has_none at (b ∷ bs) h = or_from (eqb at b) (has at bs) (swap b at (h 0 (omega arith))) (has_none at bs (λ k l. h (suc k) (omega arith)))

pub uncut : (at : ℕ) (bs : List ℕ) → position (λ b. eqb b at) bs ≡ None → has at bs ≡ false
uncut at bs h = has_none at bs (λ k l. fails_before_first (λ b. eqb b at) bs k 0 (grind (arith, common_steps)))

pub cut : (at : ℕ) (bs : List ℕ) (n : ℕ) → position (λ b. eqb b at) bs ≡ Some n → CutAt at bs (take n bs) (take (length bs - (n + 1)) (drop (n + 1) bs))
cut at bs n h =
    let first = position-Some (λ b. eqb b at) bs n 0 h in
    record {
      inside = has_none at (take n bs) (λ k l. grind (arith, common_steps, first.2 k));
      parts =
          sym (take-append-drop n bs)
          ∙ ap (λ t. take n bs ++ t) (drop_more bs n 0 first.0 ∙ ap (λ b. b ∷ drop (n + 1) bs) (eqb-true _ _ first.1))
          ∙ ap (λ t. take n bs ++ (at ∷ t)) (sym (take_rest bs (n + 1)));
    }

-- A list whose tail from a place on was written.
use Rattle.std.proofs.Common.{◌≡◌, ℕ, ◌+◌, ◌-◌, ◌≤◌, List, ◌++◌, length, take, drop, sym, ap, ◌∙◌, arith}
use Rattle.std.proofs.Math.Seq.{take-append-add, drop-append-add}
use Rattle.std.proofs.lemmas.Grind.{common_steps}
use Rattle.std.proofs.lemmas.List.{length-take-le, drop-drop}
use borrow.Rule.Slice.PartMut.{put_mid}

-- what is the same from one place on is so from a later one
drop_later : {X : Type 0} (xs ys : List X) (n k : ℕ) → drop n xs ≡ drop n ys → n ≤ k → drop k xs ≡ drop k ys
drop_later xs ys n k e l =
    let m : n + (k - n) ≡ k = omega arith in
    ap (λ j. drop j xs) (sym m) ∙ sym (drop-drop (k - n) n xs) ∙ ap (drop (k - n)) e ∙ drop-drop (k - n) n ys ∙ ap (λ j. drop j ys) m

module _ (bs ys : List ℕ) (at : ℕ) (within : at ≤ length bs) (long : length ys ≡ length bs - at) where
  whole : put_mid at (length bs - at) bs ys ≡ take at bs ++ ys
  whole = grind (arith, common_steps)

  front : length (take at bs) ≡ at
  front = length-take-le at bs within

  pub tail_long : length (put_mid at (length bs - at) bs ys) ≡ length bs
  tail_long = grind (arith, common_steps)

  pub tail_take : (r : ℕ) → take (at + r) (put_mid at (length bs - at) bs ys) ≡ take at bs ++ take r ys
  tail_take r = ap (take (at + r)) whole ∙ ap (λ n. take (n + r) (take at bs ++ ys)) (sym front) ∙ take-append-add (take at bs) ys r

  pub tail_drop : (r n : ℕ) → at + r ≤ n → drop r ys ≡ drop r (drop at bs) → drop n (put_mid at (length bs - at) bs ys) ≡ drop n bs
  tail_drop r n l e =
      let m : at + (n - at) ≡ n = omega arith in
      ap (drop n) whole
      ∙ ap (λ k. drop k (take at bs ++ ys)) (sym m)
      ∙ ap (λ k. drop (k + (n - at)) (take at bs ++ ys)) (sym front)
      ∙ drop-append-add (take at bs) ys (n - at)
      ∙ drop_later ys (drop at bs) r (n - at) e (omega arith)
      ∙ drop-drop (n - at) at bs
      ∙ ap (λ k. drop k bs) m

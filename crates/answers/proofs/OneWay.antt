-- No text writes two answers.
use Rattle.std.proofs.Common.{◌≡◌, ℕ, cond, ltb, List, [], ◌∷◌, ◌++◌, ℤ, nat_abs, Some, None, Option, sym, refl, ap, ◌∙◌, append_assoc}
use Rattle.std.specs.List.{AllByRecursion}
use Rattle.std.proofs.lemmas.List.{append-nil}
use Rattle.std.proofs.lemmas.Bool.{cond-true, lt-ltb}
use Rattle.answers.specs.Rendering.{Literal, ReadOneWay}
use Rattle.answers.specs.Following.{bind}
use Rattle.answers.proofs.Pieces.{some_inj}
use Rattle.answers.proofs.Told.{puts}
use Rattle.answers.proofs.Marking.{follows}

-- literals noted in their order
abbrev note : List ℤ → ℤ → Option (List ℤ)
note ls l = cond (ltb 0 (nat_abs l)) (Some (ls ++ (l ∷ []))) None

noted : (n : ℕ) (ms ls : List ℤ) → AllByRecursion (Literal n) ls → puts note ms ls ≡ Some (ms ++ ls)
noted n ms [] h = ap Some (sym (append-nil ms))
noted n ms (l ∷ ls) h =
    ap (λ o. bind o (λ x. puts note x ls)) (cond-true (ltb 0 (nat_abs l)) (Some (ms ++ (l ∷ []))) None (lt-ltb 0 (nat_abs l) h.0.0))
    ∙ noted n (ms ++ (l ∷ [])) ls h.1
    ∙ ap Some (append_assoc ms (l ∷ []) ls)

pub read_one_way : ReadOneWay
read_one_way n text s t ls ms below a b =
    let p = follows n below text note (λ m. refl) s ls [] ls a (noted n [] ls a.sizes) in
    let q = follows n below text note (λ m. refl) t ms [] ms b (noted n [] ms b.sizes) in
    let e : (s, ls) ≡ (t, ms) = some_inj (s, ls) (t, ms) (sym p ∙ q) in
    (ap (λ x. x.0) e, ap (λ x. x.1) e)

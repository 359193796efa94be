-- What pushing numbers adds.
use Rattle.std.proofs.Common.{◌≡◌, ℕ, ◌+◌, ◌<◌, ◌≤◌, List, [], ◌∷◌, ◌++◌, map, length, get_or, take, sym, ap, ◌∙◌, append_assoc}
use Rattle.std.proofs.lemmas.List.{append-nil, take_more, take_all}
use Rattle.rules.specs.Lists.{each}
use Rattle.problem.specs.Rendering.{two_bytes}

each_more : (of : ℕ × ℕ → ℕ) (ps : List (ℕ × ℕ)) (p : ℕ × ℕ) → each two_bytes (map of (ps ++ (p ∷ []))) ≡ each two_bytes (map of ps) ++ two_bytes (of p)
each_more of [] p = append-nil (two_bytes (of p))
each_more of (q ∷ ps) p = ap (λ t. two_bytes (of q) ++ t) (each_more of ps p)

module _ (of : ℕ × ℕ → ℕ) (before now : List ℕ) (pairs : List (ℕ × ℕ)) (i : ℕ) (h : now ≡ before ++ each two_bytes (map of (take i pairs))) where
  pub pushed_more : (after : List ℕ) (n : ℕ) → i < length pairs → n ≡ of (get_or pairs i (0, 0)) → after ≡ now ++ two_bytes n → after ≡ before ++ each two_bytes (map of (take (i + 1) pairs))
  pushed_more after n lt e k =
      k
      ∙ ap (λ t. t ++ two_bytes n) h
      ∙ append_assoc before (each two_bytes (map of (take i pairs))) (two_bytes n)
      ∙ ap (λ m. before ++ (each two_bytes (map of (take i pairs)) ++ two_bytes m)) e
      ∙ ap (λ t. before ++ t) (sym (each_more of (take i pairs) (get_or pairs i (0, 0))))
      ∙ ap (λ ps. before ++ each two_bytes (map of ps)) (sym (take_more pairs i (0, 0) lt))

  pub pushed_all : length pairs ≤ i → now ≡ before ++ each two_bytes (map of pairs)
  pushed_all le = h ∙ ap (λ ps. before ++ each two_bytes (map of ps)) (take_all i pairs le)

-- The record that stands first.
use Rattle.std.proofs.Common.{[], refl, subst, ◌≡◌, ℕ, ◌+◌, ◌<◌, ◌≤◌, ◌^◌, List, ◌∷◌, ◌++◌, length, get_or, take, drop, sym, ap, ◌∙◌, append_assoc, arith, length-append}
use Rattle.std.specs.Int.{w32, from_le_bytes, to_le_bytes}
use Rattle.std.specs.List.{IsSplitAt}
use Rattle.std.proofs.lemmas.Grind.{common_steps}
use Rattle.std.proofs.lemmas.List.{take-append-drop, append-nil}
use Rattle.std.proofs.lemmas.Nat.{le_bytes_4, from_le_bytes-to_le_bytes_4}
use Rattle.feeding.specs.Records.{packed, IsFirst, NoRecord, case_text, Told}

module _ (bytes head tail : List ℕ) (n : ℕ) (h : head ≡ take 4 bytes) (t : tail ≡ drop 4 bytes) (e : n ≡ from_le_bytes w32 head) where
  pub record_is : (first rest : List ℕ) → 4 ≤ length bytes → ((i : ℕ) → get_or bytes i 0 < 256) → n < 2 ^ 32 → IsSplitAt tail n first rest → IsFirst bytes first rest
  record_is first rest long fit small s =
      let four : length (take 4 bytes) ≡ 4 = grind (arith, common_steps) in
      let bounded : (i : ℕ) → get_or (take 4 bytes) i 0 < 256 = λ i. grind (arith, common_steps, fit i) in
      let front : to_le_bytes w32 (length first) ≡ take 4 bytes = ap (to_le_bytes w32) s.3 ∙ le_bytes_4 (take 4 bytes) n four bounded (e ∙ ap (from_le_bytes w32) h) in
      let back : first ++ rest ≡ drop 4 bytes = ap (λ f. f ++ rest) s.1 ∙ ap (λ r. take n tail ++ r) s.2 ∙ take-append-drop n tail ∙ t in
      (omega arith, sym (ap (λ h. (h ++ first) ++ rest) front ∙ append_assoc (take 4 bytes) first rest ∙ ap (λ t. take 4 bytes ++ t) back ∙ take-append-drop 4 bytes))

  pub no_record : length tail < n → NoRecord bytes
  no_record short first rest k =
      let front : take 4 bytes ≡ to_le_bytes w32 (length first) = ap (take 4) k.1 in
      let back : drop 4 bytes ≡ first ++ rest = ap (drop 4) k.1 in
      let long : n ≡ length first = e ∙ ap (from_le_bytes w32) (h ∙ front) ∙ from_le_bytes-to_le_bytes_4 (length first) k.0 in
      omega (arith, ap length t, ap length back, length-append first rest)

pub first_longer : (bytes first rest : List ℕ) → IsFirst bytes first rest → length rest < length bytes
first_longer bytes first rest h = omega (arith, ap length h.1, length-append (packed first) rest, length-append (to_le_bytes w32 (length first)) first)

-- what is told of the records that are left completes what was told of all
module _ (R : List ℕ → List ℕ → Type 0) (bytes : List ℕ) where
  abbrev pub Carries : ℕ → List ℕ → List ℕ → Type 0
  Carries n left done = (rs : List (List ℕ)) (more : List ℕ) → Told R n rs left more → (all : List (List ℕ)) × Told R 1 all bytes (done ++ more)

  pub at_first : Carries 1 bytes []
  at_first rs more h = (rs, h)

  pub one_more : (n : ℕ) (left done first rest answer : List ℕ) → Carries n left done → IsFirst left first rest → R first answer → Carries (n + 1) rest (done ++ case_text n answer)
  one_more n left done first rest answer k f r rs more h =
      let t = k (first ∷ rs) (case_text n answer ++ more) (rest, answer, more, f, r, refl, h) in
      (t.0, subst (λ o. Told R 1 t.0 bytes o) (sym (append_assoc done (case_text n answer) more)) t.1)

  pub at_last : (n : ℕ) (left done : List ℕ) → Carries n left done → NoRecord left → (all : List (List ℕ)) × Told R 1 all bytes done
  at_last n left done k none =
      let t = k [] [] (none, refl) in
      (t.0, subst (λ o. Told R 1 t.0 bytes o) (append-nil done) t.1)

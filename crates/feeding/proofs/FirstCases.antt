-- The case that stands first, and what is told of those before it.
use Rattle.std.proofs.Common.{[], refl, subst, ◌≡◌, ℕ, zero, suc, ◌+◌, ◌*◌, ◌%◌, ◌<◌, ◌≤◌, ◌^◌, List, ◌∷◌, ◌++◌, length, get_or, take, drop, sym, ap, ◌∙◌, append_assoc, arith, length-append}
use Rattle.std.specs.Int.{w32, from_le_bytes, to_le_bytes}
use Rattle.std.specs.List.{IsSplitAt}
use Rattle.std.proofs.lemmas.Grind.{common_steps}
use Rattle.std.proofs.lemmas.List.{take-append-drop, append-nil}
use Rattle.std.proofs.lemmas.Nat.{le_bytes_4, from_le_bytes-to_le_bytes_4, mod-mul-add}
use Rattle.feeding.specs.Records.{case_text}
use Rattle.feeding.specs.Cases.{IsFirstCase, NoCase, ToldCases}

-- bytes stay bytes where the fourth becomes 0
zero_fourth : (a b c d : ℕ) → ((i : ℕ) → get_or (a ∷ b ∷ c ∷ d ∷ []) i 0 < 256) → (i : ℕ) → get_or (a ∷ b ∷ c ∷ 0 ∷ []) i 0 < 256
zero_fourth a b c d s zero = s 0
zero_fourth a b c d s (suc zero) = s 1
zero_fourth a b c d s (suc (suc zero)) = s 2
zero_fourth a b c d s (suc (suc (suc zero))) = omega arith
zero_fourth a b c d s (suc (suc (suc (suc i)))) = omega arith

-- four bytes are the three of their number below 2^24, and the fourth
three_and_fourth : (bs : List ℕ) (n : ℕ) → length bs ≡ 4 → ((i : ℕ) → get_or bs i 0 < 256) → n ≡ from_le_bytes w32 bs % 2 ^ 24 → take 3 (to_le_bytes w32 n) ++ get_or bs 3 0 ∷ [] ≡ bs
three_and_fourth [] n l s e = absurd (omega arith)
three_and_fourth (a ∷ []) n l s e = absurd (omega arith)
three_and_fourth (a ∷ b ∷ []) n l s e = absurd (omega arith)
three_and_fourth (a ∷ b ∷ c ∷ []) n l s e = absurd (omega arith)
three_and_fourth (a ∷ b ∷ c ∷ d ∷ []) n l s e =
    let small : a + b * 256 + c * 65536 < 16777216 = omega (arith, s 0, s 1, s 2) in
    let is : n ≡ a + b * 256 + c * 65536 = e ∙ ap (λ m. m % 16777216) (omega arith) ∙ mod-mul-add d 16777216 (a + b * 256 + c * 65536) small in
    ap (λ h. take 3 h ++ d ∷ []) (le_bytes_4 (a ∷ b ∷ c ∷ 0 ∷ []) n refl (zero_fourth a b c d s) (omega (arith, is)))
three_and_fourth (a ∷ b ∷ c ∷ d ∷ e' ∷ bs) n l s e = absurd (omega arith)

-- and the other way round
number_of_three : (n fourth : ℕ) → n < 2 ^ 24 → from_le_bytes w32 (take 3 (to_le_bytes w32 n) ++ fourth ∷ []) % 2 ^ 24 ≡ n
number_of_three n fourth small =
    let whole = from_le_bytes-to_le_bytes_4 n (omega arith) in
    let split : from_le_bytes w32 (take 3 (to_le_bytes w32 n) ++ fourth ∷ []) ≡ fourth * 16777216 + n = omega (arith, whole) in
    ap (λ m. m % 16777216) split ∙ mod-mul-add fourth 16777216 n small

module _ (bytes head tail : List ℕ) (n : ℕ) (h : head ≡ take 4 bytes) (t : tail ≡ drop 4 bytes) (e : n ≡ from_le_bytes w32 head % 2 ^ 24) where
  pub case_is : (first rest : List ℕ) → 4 ≤ length bytes → ((i : ℕ) → get_or bytes i 0 < 256) → IsSplitAt tail n first rest → IsFirstCase bytes first rest
  case_is first rest long fit s =
      let four : length (take 4 bytes) ≡ 4 = grind (arith, common_steps) in
      let bounded : (i : ℕ) → get_or (take 4 bytes) i 0 < 256 = λ i. grind (arith, common_steps, fit i) in
      let fourth = get_or (take 4 bytes) 3 0 in
      let front : take 3 (to_le_bytes w32 (length first)) ++ fourth ∷ [] ≡ take 4 bytes = ap (λ m. take 3 (to_le_bytes w32 m) ++ fourth ∷ []) s.3 ∙ three_and_fourth (take 4 bytes) n four bounded (e ∙ ap (λ l. from_le_bytes w32 l % 2 ^ 24) h) in
      let back : first ++ rest ≡ drop 4 bytes = ap (λ f. f ++ rest) s.1 ∙ ap (λ r. take n tail ++ r) s.2 ∙ take-append-drop n tail ∙ t in
      (omega arith, fourth, sym (ap (λ h. h ++ (first ++ rest)) front ∙ ap (λ t. take 4 bytes ++ t) back ∙ take-append-drop 4 bytes))

  pub no_case : length tail < n → NoCase bytes
  no_case short first rest k =
      let fourth = k.1 in
      let front : take 4 bytes ≡ take 3 (to_le_bytes w32 (length first)) ++ fourth ∷ [] = ap (take 4) k.2 in
      let back : drop 4 bytes ≡ first ++ rest = ap (drop 4) k.2 in
      let long : n ≡ length first = e ∙ ap (λ l. from_le_bytes w32 l % 2 ^ 24) (h ∙ front) ∙ number_of_three (length first) fourth k.0 in
      omega (arith, ap length t, ap length back, length-append first rest)

-- what is told of the cases that are left completes what was told of all
module _ (R : List ℕ → List ℕ → Type 0) (bytes : List ℕ) where
  abbrev pub CarriesCases : ℕ → List ℕ → List ℕ → Type 0
  CarriesCases n left done = (rs : List (List ℕ)) (more : List ℕ) → ToldCases R n rs left more → (all : List (List ℕ)) × ToldCases R 1 all bytes (done ++ more)

  pub at_first_case : CarriesCases 1 bytes []
  at_first_case rs more h = (rs, h)

  pub one_case_more : (n : ℕ) (left done first rest answer : List ℕ) → CarriesCases n left done → n < 100000 → IsFirstCase left first rest → R first answer → CarriesCases (n + 1) rest (done ++ case_text n answer)
  one_case_more n left done first rest answer k few f r rs more h =
      let t = k (first ∷ rs) (case_text n answer ++ more) (few, rest, answer, more, f, r, refl, h) in
      (t.0, subst (λ o. ToldCases R 1 t.0 bytes o) (sym (append_assoc done (case_text n answer) more)) t.1)

  pub at_last_case : (n : ℕ) (left done : List ℕ) → CarriesCases n left done → (n < 100000 → NoCase left) → (all : List (List ℕ)) × ToldCases R 1 all bytes done
  at_last_case n left done k none =
      let t = k [] [] (none, refl) in
      (t.0, subst (λ o. ToldCases R 1 t.0 bytes o) (append-nil done) t.1)

-- That a model is the only one, by trying all truth values.
use Rattle.std.proofs.Common.{◌≡◌, ℕ, zero, suc, Bool, true, false, cond, not, ◌&&◌, List, [], ◌∷◌, length, sym, refl, ap, ◌∙◌, subst, arith}
use mathlib.Core.Bool.{false≢true}
use Rattle.std.specs.List.{AllByRecursion}
use Rattle.std.proofs.lemmas.Bool.{and_parts}
use Rattle.rules.specs.Lists.{any}
use Rattle.rules.specs.Clauses.{Clause, Valuation, Model, Satisfies, says, value}

-- all lists of n truth values pass the test
abbrev pub every : ℕ → (List Bool → Bool) → Bool
every zero test = test []
every (suc n) test = every n (λ vs. test (true ∷ vs)) && every n (λ vs. test (false ∷ vs))

passes : (n : ℕ) (test : List Bool → Bool) → every n test ≡ true → (vs : List Bool) → length vs ≡ n → test vs ≡ true
passes zero test h [] l = h
passes zero test h (v ∷ vs) l = absurd (omega arith)
passes (suc n) test h [] l = absurd (omega arith)
passes (suc n) test h (true ∷ vs) l = passes n (λ ws. test (true ∷ ws)) (and_parts (every n (λ ws. test (true ∷ ws))) _ h).0 vs (omega arith)
passes (suc n) test h (false ∷ vs) l = passes n (λ ws. test (false ∷ ws)) (and_parts (every n (λ ws. test (true ∷ ws))) _ h).1 vs (omega arith)

abbrev pub meets_all : Valuation → List Clause → Bool
meets_all w [] = true
meets_all w (c ∷ cs) = any (says w) c && meets_all w cs

abbrev pub same : List Bool → List Bool → Bool
same [] [] = true
same [] (w ∷ ws) = false
same (v ∷ vs) [] = false
same (true ∷ vs) (w ∷ ws) = w && same vs ws
same (false ∷ vs) (w ∷ ws) = not w && same vs ws

met : (w : Valuation) (cs : List Clause) → Satisfies w cs → meets_all w cs ≡ true
met w [] h = refl
met w (c ∷ cs) h = ap (λ b. b && meets_all w cs) h.0 ∙ met w cs h.1

-- a clause that is not met
pub no_model : (n : ℕ) (cs : List Clause) (vs : List Bool) → meets_all (value vs) cs ≡ false → Model n cs vs → ⊥
no_model n cs vs e m = false≢true (sym e ∙ met (value vs) cs m.meets)

same_is : (vs ws : List Bool) → same vs ws ≡ true → vs ≡ ws
same_is [] [] h = refl
same_is [] (w ∷ ws) h = absurd (false≢true h)
same_is (v ∷ vs) [] h = absurd (false≢true h)
same_is (true ∷ vs) (true ∷ ws) h = ap (λ xs. true ∷ xs) (same_is vs ws h)
same_is (true ∷ vs) (false ∷ ws) h = absurd (false≢true h)
same_is (false ∷ vs) (true ∷ ws) h = absurd (false≢true h)
same_is (false ∷ vs) (false ∷ ws) h = ap (λ xs. false ∷ xs) (same_is vs ws h)

-- a model of these clauses has these truth values
abbrev pub tried : List Clause → List Bool → List Bool → Bool
tried cs values vs = cond (meets_all (value vs) cs) (same vs values) true

pub only : (n : ℕ) (cs : List Clause) (values : List Bool) → every n (tried cs values) ≡ true → (vs : List Bool) → Model n cs vs → vs ≡ values
only n cs values h vs m =
    same_is vs values (sym (ap (λ b. cond b (same vs values) true) (met (value vs) cs m.meets)) ∙ passes n (tried cs values) h vs m.long)

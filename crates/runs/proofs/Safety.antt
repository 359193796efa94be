-- Where there is a model no run concludes.
use Rattle.std.proofs.Common.{◌≡◌, ℕ, ◌≤◌, List, [], ◌∷◌, ℤ, pos, nat_abs, Ok, Err, sym, ap, subst, arith}
use mathlib.Core.Bool.{false≢true}
use Rattle.std.specs.List.{AllByRecursion}
use Rattle.std.proofs.ByRecursion.{All-append, All-push, All-take, All-weaker}
use Rattle.rules.specs.Clauses.{Clause, Valuation, Meets, Satisfies, value}
use Rattle.rules.specs.Propagation.{NoZero, Shown}
use Rattle.rules.proofs.Entailment.{shown_holds_lem}
use Rattle.runs.specs.Memory.{lemmas_in}
use Rattle.runs.specs.Calls.{Refutation, known, cleared, Over, AsNoted}
use Rattle.runs.specs.Runs.{Turn, asked_lemma, asked_cut, asked_conclude, Answered, Concludes, Run, live_by}
use Rattle.runs.specs.Laws.{ModelsAreSafe}
use Rattle.runs.proofs.Granting.{lemma_met, conclude_met}
use Rattle.runs.proofs.Keeping.{lemmas_by, starts_empty}

pub not_zero : (l : ℤ) → 1 ≤ nat_abs l → l ≡ pos 0 → ⊥
not_zero l h e = let z : nat_abs l ≡ 0 = ap nat_abs e in omega arith

no_zero : (vars : ℕ) (c : Clause) → Over vars c → NoZero c
no_zero vars c h = All-weaker (λ l. (1 ≤ nat_abs l) × (nat_abs l ≤ vars)) (λ l. l ≡ pos 0 → ⊥) (λ l r. not_zero l r.0) c h

module _ (cs : List Clause) (w : Valuation) (sat : Satisfies w cs) where
  -- the model meets every lemma
  Met : List Clause → Type 0
  Met lemmas = AllByRecursion NoZero lemmas × Satisfies w lemmas

  shown_met : (o : Refutation) (marks : List ℕ) → AsNoted cs o marks → Met (lemmas_in o.memory) → (c : Clause) → NoZero c → (count : ℕ) → Shown (known cs o) c count → Meets w c
  unfolding Met
  shown_met o marks noted m c proper count shown =
      let ls = lemmas_in o.memory in
      shown_holds_lem (known cs o) (All-append NoZero cs ls (All-weaker (Over o.noted.variables) NoZero (no_zero o.noted.variables) cs noted.clauses_over) m.0) c proper count shown w (All-append (Meets w) cs ls sat m.1)

  still_met : (o after : Refutation) (t : Turn) → Answered cs o t after → Met (lemmas_in o.memory) → Met (live_by (lemmas_in o.memory) t)
  unfolding Met
  still_met o after (asked_lemma marks c (Ok k)) a m =
      let (noted, proper, _) = lemma_met cs o marks c k after (cleared marks) a in
      let ls = lemmas_in o.memory in
      let real = no_zero o.noted.variables c proper.over in
      (All-push NoZero ls c m.0 real, All-push (Meets w) ls c m.1 (shown_met o marks noted m c real k a.counts))
  still_met o after (asked_lemma marks c (Err e)) a m = m
  still_met o after (asked_cut marks n (Ok u)) a m = (All-take NoZero n (lemmas_in o.memory) m.0, All-take (Meets w) n (lemmas_in o.memory) m.1)
  still_met o after (asked_cut marks n (Err e)) a m = m
  still_met o after (asked_conclude marks r) a m = m

  never_concludes : (o after : Refutation) (t : Turn) → Answered cs o t after → Met (lemmas_in o.memory) → Concludes t → ⊥
  never_concludes o after (asked_lemma marks c r) a m h = h
  never_concludes o after (asked_cut marks n r) a m h = h
  never_concludes o after (asked_conclude marks (Ok v)) a m h = false≢true (shown_met o marks (conclude_met cs o marks v after (cleared marks) a) m [] tt v.count a.settles.counted)
  never_concludes o after (asked_conclude marks (Err e)) a m h = h

  safe_along : (turns : List Turn) (o e : Refutation) → Run cs o turns e → Met (lemmas_in o.memory) → AllByRecursion (λ t. Concludes t → ⊥) turns
  safe_along [] o e run m = tt
  safe_along (t ∷ ts) o e (after, a, _, more) m = (never_concludes o after t a m, safe_along ts after e more (subst Met (sym (lemmas_by cs o after t a)) (still_met o after t a m)))

pub models_are_safe_lem : ModelsAreSafe
unfolding Met
models_are_safe_lem cs v values model vars o e begun turns run =
    let w = value values in
    let none : Met cs w model.meets (lemmas_in o.memory) = subst (Met cs w model.meets) (sym (starts_empty cs vars o begun)) (tt, tt) in
    safe_along cs w model.meets turns o e run none

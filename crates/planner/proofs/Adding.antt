-- A sink that has space for clauses that are all good takes them all.
use Rattle.std.proofs.Common.{◌≡◌, ℕ, ◌+◌, ◌-◌, ◌≤◌, false, ltb, List, [], ◌∷◌, ◌++◌, drop, ℤ, Ok, Result, sym, ap, ◌∙◌, subst, inl, inr, append_assoc, append-nil, arith}
use base.Fml.{GName}
use Rattle.std.specs.List.{AllByRecursion}
use Rattle.std.proofs.lemmas.List.{drop-drop}
use Rattle.std.proofs.lemmas.Bool.{cond-false, le-ltb}
use Rattle.rules.specs.declared.refusal.Refusal.{Refusal}
use Rattle.rules.specs.Clauses.{Clause, total, bad_clause}
use Rattle.clauses.specs.Judged.{judged, held_after, free_after}
use Rattle.std.specs.Fn.{Shared}
use denote.Ref.{Bor, MutBor}
use Rattle.formula.specs.Visits.{Shown, Visits, Stops}
use Rattle.formula.proofs.Visiting.{visits_map}
use Rattle.formula.proofs.Totals.{total_append}
use Rattle.planner.specs.Steps.{Added, Kept}

judged_ok : (widest left price : ℕ) (c : Clause) → bad_clause widest c ≡ false → price ≤ left → judged widest left price c ≡ Ok tt
judged_ok widest left price c good fits = cond-false (bad_clause widest c) _ _ good ∙ cond-false (ltb left price) _ _ (le-ltb left price fits)

module _ {S : Type 0} (held : S → List Clause) (widest capacity : S → ℕ) (cost : Clause → ℕ) (free : S → List ℤ) (lent : S → GName) where
  -- what a run that adds all the clauses leaves
  pub record AllAdded (a : S) (cs : List Clause) (r : Result Unit Refusal) (b : S) : Type 0 where
    pub grants : r ≡ Ok tt
    pub holds : held b ≡ held a ++ cs
    pub rest : free b ≡ drop (total cost cs) (free a)
    pub kept : Kept widest capacity lent a b

  added_one : (a : S) (c : Clause) (r : Result Unit Refusal) (b : S) → Added held widest capacity cost free lent a c r b → bad_clause (widest a) c ≡ false → total cost (held a) + cost c ≤ capacity a → AllAdded a (c ∷ []) r b
  added_one a c r b h good fits =
      let g : r ≡ Ok tt = h.answers ∙ judged_ok (widest a) (capacity a - total cost (held a)) (cost c) c good (omega arith) in
      record {
        grants = g;
        holds = h.holds ∙ ap (λ (x : Result Unit Refusal). held_after x (held a) c) g;
        rest = h.rest ∙ ap (λ (x : Result Unit Refusal). free_after x (cost c) (free a)) g ∙ ap (λ n. drop n (free a)) (let e : cost c ≡ cost c + 0 = omega arith in e);
        kept = record { room = h.room; width = h.width; same = h.same };
      }

  pub added_all : (cs : List Clause) (a b : S) (r : Result Unit Refusal) → Visits (λ a c r b. Added held widest capacity cost free lent a c r b) a cs r b → AllByRecursion (λ c. bad_clause (widest a) c ≡ false) cs → total cost (held a) + total cost cs ≤ capacity a → AllAdded a cs r b
  added_all [] a b r h good fits = record {
    grants = h.0;
    holds = ap held (sym h.1) ∙ sym (append-nil (held a));
    rest = ap free (sym h.1);
    kept = record { room = ap capacity (sym h.1); width = ap widest (sym h.1); same = ap lent (sym h.1) };
  }
  added_all (c ∷ cs) a b r (inl h) good fits =
      let m = h.0 in
      let o = added_one a c (Ok tt) m h.1 good.0 (omega arith) in
      let width : widest m ≡ widest a = o.kept.width in
      let goods = subst (λ w. AllByRecursion (λ c. bad_clause w c ≡ false) cs) (sym width) good.1 in
      let now-held : total cost (held m) ≡ total cost (held a) + cost c = ap (total cost) o.holds ∙ total_append cost (held a) (c ∷ []) ∙ (let e : total cost (held a) + (cost c + 0) ≡ total cost (held a) + cost c = omega arith in e) in
      let i = added_all cs m b r h.2 goods (omega (arith, now-held, o.kept.room)) in
      record {
        grants = i.grants;
        holds = i.holds ∙ ap (λ ds. ds ++ cs) o.holds ∙ append_assoc (held a) (c ∷ []) cs;
        rest = i.rest ∙ ap (drop (total cost cs)) o.rest ∙ drop-drop (total cost cs) (cost c + 0) (free a) ∙ ap (λ n. drop n (free a)) (let e : cost c + 0 + total cost cs ≡ cost c + total cost cs = omega arith in e);
        kept = record { room = i.kept.room ∙ o.kept.room; width = i.kept.width ∙ width; same = i.kept.same ∙ o.kept.same };
      }
  added_all (c ∷ cs) a b r (inr h) good fits =
      let o = added_one a c r b h.1 good.0 (omega arith) in
      absurd (elim (subst Stops o.grants h.0) [ ])

  -- the same, where each call of a closure does what add promises
  pub added_by : {F : Type 0} (calls : Shared F (MutBor S × (Bor (List ℤ) × Unit {0})) (Result Unit Refusal × (MutBor S × Unit {0}))) (f : F) → ((a b : MutBor S) (c : Bor (List ℤ)) (r : Result Unit Refusal) → calls.post f (a, (c, tt)) (r, (b, tt)) → Added held widest capacity cost free lent a.now c.now r b.now) → (cs : List Clause) (a b : S) (r : Result Unit Refusal) → Visits (Shown calls f) a cs r b → AllByRecursion (λ c. bad_clause (widest a) c ≡ false) cs → total cost (held a) + total cost cs ≤ capacity a → AllAdded a cs r b
  added_by calls f adds cs a b r v =
      let A = Added held widest capacity cost free lent in
      let one : (x : S) (c : Clause) (s : Result Unit Refusal) (y : S) → Shown calls f x c s y → A x c s y = λ x c s y h.
      subst (λ z. A z c s y) h.lends (subst (λ z. A h.lent.now z s y) h.shows (subst (λ z. A h.lent.now h.clause.now s z) h.leaves (adds h.lent h.left h.clause s h.answers))) in
      added_all cs a b r (visits_map {one = Shown calls f} {two = A} one cs a b r v)

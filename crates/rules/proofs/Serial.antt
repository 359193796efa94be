-- A sheet that holds, carried out one step at a time.
use Rattle.std.proofs.Common.{◌≡◌, ℕ, zero, suc, ◌+◌, ◌≤◌, List, [], ◌∷◌, ◌++◌, sym, ap, subst, add-one, arith}
use mathlib.Core.Path.{fun_ext}
use Rattle.std.specs.List.{range_with_len}
use Rattle.rules.specs.Lists.{each}
use Rattle.rules.specs.declared.line.Line.{Line}
use Rattle.rules.specs.Steps.{Rule, Lawful}
use Rattle.rules.specs.Problems.{Problem}
use Rattle.rules.specs.States.{State, CarriedOut, move, start_state}
use Rattle.rules.specs.Sheets.{Holds, slot, state}
use Rattle.rules.specs.Laws.{OrderOf, SheetsCanBeDone}
use Rattle.rules.proofs.Orders.{any_order}

-- one run after another
after_each_other : (p : Problem) (s e g : State) (xs ys : List ℕ) → CarriedOut p s xs e → CarriedOut p e ys g → CarriedOut p s (xs ++ ys) g
after_each_other p s e g [] ys h k = subst (λ z. CarriedOut p z ys g) (sym (fun_ext h)) k
after_each_other p s e g (x ∷ xs) ys h k = (h.0, after_each_other p (move p s x) e g xs ys h.1 k)

module _ (p : Problem) (rule : Rule) (law : Lawful rule) (horizon : ℕ) (lines : List Line) (holds : Holds p rule horizon lines) (orders : ℕ → List ℕ) (is : (t : ℕ) → OrderOf (slot lines t) (orders t)) where
  -- n slots after slot t
  along : (n t : ℕ) → t + n ≤ horizon → CarriedOut p (state p lines t) (each orders (range_with_len (suc t) n)) (state p lines (t + n))
  along zero t h = let e : t ≡ t + 0 = omega arith in λ f. ap (λ z. state p lines z f) e
  along (suc n) t h =
      let here = any_order p rule law (state p lines t) (slot lines (suc t)) (holds.allowed t (omega arith)) (orders (suc t)) (is (suc t)) in
      let more : CarriedOut p (state p lines (suc t)) (each orders (range_with_len (suc t + 1) n)) (state p lines (suc t + n)) = rw (add-one (suc t)) (along n (suc t) (omega arith)) in
      let e : suc t + n ≡ t + suc n = omega arith in
      after_each_other p (state p lines t) (state p lines (suc t)) (state p lines (t + suc n)) (orders (suc t)) (each orders (range_with_len (suc t + 1) n)) here (subst (λ z. CarriedOut p (state p lines (suc t)) (each orders (range_with_len (suc t + 1) n)) (state p lines z)) e more)

pub sheets_can_be_done_lem : SheetsCanBeDone
sheets_can_be_done_lem p rule law horizon lines holds orders is = record {
  slots_end = λ t h. let e : 0 + t ≡ t = omega arith in subst (λ z. CarriedOut p (start_state p) (each orders (range_with_len 1 t)) (state p lines z)) e (along p rule law horizon lines holds orders is t 0 (omega arith));
  goals_reached = holds.reached;
}

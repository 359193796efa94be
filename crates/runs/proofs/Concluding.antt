-- Where there is no model some run of granted lemmas concludes.
use Rattle.std.proofs.Common.{◌≡◌, ℕ, ◌+◌, ◌*◌, ◌^◌, ◌≤◌, List, [], ◌∷◌, ◌++◌, length, sym, refl, ap, ◌∙◌, subst, append_assoc, append-nil, le_trans, mul-le-mul_left, arith, length-append}
use Rattle.std.specs.List.{AllByRecursion}
use Rattle.rules.specs.Clauses.{Clause, literals}
use Rattle.runs.specs.Memory.{lemmas_in}
use Rattle.runs.specs.Calls.{Refutation, IsShown, Proper, RoomFor, more_by}
use Rattle.runs.specs.Laws.{InOrder, Concluded, NoModelConcludes}
use Rattle.runs.proofs.Storing.{lemmas_read_back_lem}
use Rattle.runs.proofs.Exits.{lemma_granted, conclude_granted}
use Rattle.runs.proofs.Keeping.{could_begin, same_vars, more_in_order, starts_empty, starts_in_order}
use Rattle.runs.proofs.Splitting.{trunk, InTurn, trunk_refutes}

module _ (cs : List Clause) (vars : ℕ) (b : Refutation) (marks : List ℕ) (long : length marks ≡ vars) where
  concluded : (new : List Clause) (o : Refutation) → InOrder cs vars b o → AllByRecursion (Proper vars) new → InTurn cs (lemmas_in o.memory) new → length o.memory.records.items + length new ≤ o.memory.records.room → length o.memory.literals.items + literals new ≤ o.memory.literals.room → IsShown (cs ++ (lemmas_in o.memory ++ new)) [] → Concluded cs o marks
  concluded [] o h proper turn records-fit' literals-fit' ends =
      let noted = h.as_noted marks long in
      let shown : IsShown (cs ++ lemmas_in o.memory) [] = subst (λ ds. IsShown (cs ++ ds) []) (append-nil (lemmas_in o.memory)) ends in
      record {
        lemmas = [];
        verdict = record { variables = o.noted.variables; lemmas = length o.memory.records.items; count = shown.0 };
        end = o;
        run = (o, conclude_granted cs o marks noted shown.0 shown.1, λ _. refl, refl);
      }
  concluded (c ∷ new) o h proper turn records-fit' literals-fit' ends =
      let noted = h.as_noted marks long in
      let old = lemmas_in o.memory in
      let proper' : Proper o.noted.variables c = subst (λ v. Proper v c) (sym (same_vars cs vars b o h)) proper.0 in
      let room : RoomFor o.memory c = record { its_literals = omega arith; its_record = omega arith } in
      let read : lemmas_in (more_by o c).memory ≡ old ++ c ∷ [] = (lemmas_read_back_lem o.memory noted.end_to_end).added_last c in
      let ends' : IsShown (cs ++ (lemmas_in (more_by o c).memory ++ new)) [] = subst (λ ds. IsShown (cs ++ ds) []) (sym (append_assoc old (c ∷ []) new) ∙ ap (λ ds. ds ++ new) (sym read)) ends in
      let rest = concluded new (more_by o c) (more_in_order cs vars b o c h proper' room) proper.1 (subst (λ ds. InTurn cs ds new) (sym read) turn.1) (omega (arith, length-append o.memory.records.items (record { place = length o.memory.literals.items; length = length c } ∷ []))) (omega (arith, length-append o.memory.literals.items c)) ends' in
      record {
        lemmas = (c, turn.0.0) ∷ rest.lemmas;
        verdict = rest.verdict;
        end = rest.end;
        run = (more_by o c, lemma_granted cs o marks noted c proper' room turn.0.0 turn.0.1, λ x. absurd x, rest.run);
      }

pub no_model_concludes_lem : NoModelConcludes
no_model_concludes_lem cs v few over none vars o begun fit record-room' literal-room' marks long =
    let r = trunk_refutes cs vars v (omega arith) fit over none in
    let h = starts_in_order cs vars o begun in
    let empty = starts_empty cs vars o begun in
    let can = could_begin cs vars o begun in
    let no-literals' : length o.memory.literals.items ≡ 0 = ap length can.no_literals in
    let no-records' : length o.memory.records.items ≡ 0 = ap length can.no_records in
    let bound : literals (trunk v) ≤ v * 2 ^ v = le_trans r.short (mul-le-mul_left v r.few) in
    concluded cs vars o marks long (trunk v) o h r.proper (subst (λ ds. InTurn cs ds (trunk v)) (sym empty) r.turn) (omega (arith, r.few)) (omega arith) (subst (λ ds. IsShown (cs ++ (ds ++ trunk v)) []) (sym empty) r.ends)

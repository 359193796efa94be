-- Every call leaves a refutation in order.
use Rattle.std.proofs.Common.{◌≡◌, ℕ, ◌≤◌, List, [], ◌∷◌, length, take, replicate, nat_abs, Ok, Err, sym, refl, ap, ◌∙◌, subst, arith, length-append, length-take, length-take-le}
use lib.ListN.{length-replicate}
use Rattle.std.specs.List.{AllByRecursion}
use Rattle.std.proofs.ByRecursion.{All-append, All-push, All-take}
use Rattle.rules.specs.Clauses.{Clause}
use Rattle.runs.specs.Memory.{lemmas_in, EndToEnd, span, with_lemma}
use Rattle.runs.specs.Calls.{Refutation, Over, cleared, CanBegin, AsNoted, Proper, RoomFor, more_by, cut_to}
use Rattle.runs.specs.Runs.{Begun, Turn, asked_lemma, asked_cut, asked_conclude, Answered, Run, live_by, live_after}
use Rattle.runs.specs.Laws.{ListsHoldLiveLemmas, InOrder, RunsKeepOrder}
use Rattle.runs.proofs.Storing.{ends_push, cut_ends, lemmas_read_back_lem}
use Rattle.runs.proofs.Granting.{begin_met, lemma_met, cut_met}

-- a call changes the live lemmas as its answer says
pub lemmas_by : (cs : List Clause) (o after : Refutation) (t : Turn) → Answered cs o t after → lemmas_in after.memory ≡ live_by (lemmas_in o.memory) t
lemmas_by cs o after (asked_lemma marks c (Ok k)) a = ap (λ x. lemmas_in x.memory) a.adds ∙ (lemmas_read_back_lem o.memory (lemma_met cs o marks c k after (cleared marks) a).0.end_to_end).added_last c
lemmas_by cs o after (asked_lemma marks c (Err e)) a = ap (λ x. lemmas_in x.memory) a.adds
lemmas_by cs o after (asked_cut marks n (Ok u)) a = ap (λ x. lemmas_in x.memory) a.cuts ∙ (lemmas_read_back_lem o.memory (cut_met cs o marks n after (cleared marks) a).0.end_to_end).first_kept n
lemmas_by cs o after (asked_cut marks n (Err e)) a = ap (λ x. lemmas_in x.memory) a.cuts
lemmas_by cs o after (asked_conclude marks r) a = ap (λ x. lemmas_in x.memory) a.keeps

live_along : (cs : List Clause) (turns : List Turn) (o e : Refutation) → Run cs o turns e → lemmas_in e.memory ≡ live_after (lemmas_in o.memory) turns
live_along cs [] o e run = ap (λ x. lemmas_in x.memory) run
live_along cs (t ∷ ts) o e (after, a, _, more) = live_along cs ts after e more ∙ ap (λ ls. live_after ls ts) (lemmas_by cs o after t a)

module _ (cs : List Clause) (vars : ℕ) (b : Refutation) where
  pub noted_so : (o : Refutation) → InOrder cs vars b o → AsNoted cs o (replicate vars 0)
  noted_so o h = h.as_noted (replicate vars 0) (length-replicate vars 0)

  pub same_vars : (o : Refutation) → InOrder cs vars b o → o.noted.variables ≡ vars
  same_vars o h = sym (noted_so o h).a_mark_each ∙ length-replicate vars 0

  pub more_in_order : (o : Refutation) (c : Clause) → InOrder cs vars b o → Proper o.noted.variables c → RoomFor o.memory c → InOrder cs vars b (more_by o c)
  more_in_order o c h proper room =
      let ls = o.memory.literals.items in
      let rs = o.memory.records.items in
      record {
        as_noted = λ marks e. let n = h.as_noted marks e in record {
          a_mark_each = n.a_mark_each;
          clauses_noted = n.clauses_noted;
          lemmas_noted = omega (arith, length-append rs (record { place = length ls; length = length c } ∷ []), n.lemmas_noted);
          clauses_over = n.clauses_over;
          literals_over = All-append (λ l. (1 ≤ nat_abs l) × (nat_abs l ≤ o.noted.variables)) ls c n.literals_over proper.over;
          end_to_end = subst (EndToEnd 0 (with_lemma o.memory c).records.items) (sym (length-append ls c)) (ends_push 0 (length ls) rs (record { place = length ls; length = length c }) n.end_to_end refl);
        };
        lemmas_proper = subst (AllByRecursion (Proper vars)) (sym ((lemmas_read_back_lem o.memory (noted_so o h).end_to_end).added_last c)) (All-push (Proper vars) (lemmas_in o.memory) c h.lemmas_proper (subst (λ v. Proper v c) (same_vars o h) proper));
        literal_room_kept = h.literal_room_kept;
        record_room_kept = h.record_room_kept;
        literals_fit = omega (arith, length-append ls c, room.its_literals);
        records_fit = omega (arith, length-append rs (record { place = length ls; length = length c } ∷ []), room.its_record);
      }

  pub cut_in_order : (o : Refutation) (n : ℕ) → InOrder cs vars b o → n ≤ length o.memory.records.items → InOrder cs vars b (cut_to o n)
  cut_in_order o n h short =
      let ls = o.memory.literals.items in
      let rs = o.memory.records.items in
      record {
        as_noted = λ marks e. let a = h.as_noted marks e in record {
          a_mark_each = a.a_mark_each;
          clauses_noted = a.clauses_noted;
          lemmas_noted = length-take-le n rs short;
          clauses_over = a.clauses_over;
          literals_over = All-take (λ l. (1 ≤ nat_abs l) × (nat_abs l ≤ o.noted.variables)) (span (take n rs)) ls a.literals_over;
          end_to_end = cut_ends n o.memory a.end_to_end;
        };
        lemmas_proper = subst (AllByRecursion (Proper vars)) (sym ((lemmas_read_back_lem o.memory (noted_so o h).end_to_end).first_kept n)) (All-take (Proper vars) n (lemmas_in o.memory) h.lemmas_proper);
        literal_room_kept = h.literal_room_kept;
        record_room_kept = h.record_room_kept;
        literals_fit = omega (arith, h.literals_fit, length-take (span (take n rs)) ls);
        records_fit = omega (arith, h.records_fit, length-take n rs);
      }

  kept : (o after : Refutation) (t : Turn) → Answered cs o t after → InOrder cs vars b o → InOrder cs vars b after
  kept o after (asked_lemma marks c (Ok k)) a h = let (_, proper, room) = lemma_met cs o marks c k after (cleared marks) a in subst (InOrder cs vars b) (sym a.adds) (more_in_order o c h proper room)
  kept o after (asked_lemma marks c (Err e)) a h = subst (InOrder cs vars b) (sym a.adds) h
  kept o after (asked_cut marks n (Ok u)) a h = subst (InOrder cs vars b) (sym a.cuts) (cut_in_order o n h (cut_met cs o marks n after (cleared marks) a).1)
  kept o after (asked_cut marks n (Err e)) a h = subst (InOrder cs vars b) (sym a.cuts) h
  kept o after (asked_conclude marks r) a h = subst (InOrder cs vars b) (sym a.keeps) h

  kept_along : (turns : List Turn) (o e : Refutation) → Run cs o turns e → InOrder cs vars b o → InOrder cs vars b e
  kept_along [] o e run h = subst (InOrder cs vars b) (sym run) h
  kept_along (t ∷ ts) o e (after, a, _, more) h = kept_along ts after e more (kept o after t a h)

pub could_begin : (cs : List Clause) (vars : ℕ) (o : Refutation) (h : Begun cs vars o) → CanBegin cs vars h.marks o.memory
could_begin cs vars o h = begin_met cs vars h.marks o.memory o.noted o.memory (cleared h.marks) h.granted

pub starts_empty : (cs : List Clause) (vars : ℕ) (o : Refutation) → Begun cs vars o → lemmas_in o.memory ≡ []
starts_empty cs vars o h = rw (could_begin cs vars o h).no_records refl

pub starts_in_order : (cs : List Clause) (vars : ℕ) (o : Refutation) → Begun cs vars o → InOrder cs vars o o
starts_in_order cs vars o h =
    let can = could_begin cs vars o h in
    let n = h.granted.notes in
    let v : vars ≡ o.noted.variables = sym (ap (λ x. x.variables) n) in
    let none : length o.memory.literals.items ≡ 0 = ap length can.no_literals in
    let none' : length o.memory.records.items ≡ 0 = ap length can.no_records in
    record {
      as_noted = λ marks e. record {
        a_mark_each = e ∙ v;
        clauses_noted = sym (ap (λ x. x.clauses) n);
        lemmas_noted = none' ∙ sym (ap (λ x. x.lemmas) n);
        clauses_over = subst (λ x. AllByRecursion (Over x) cs) v can.clauses_over;
        literals_over = subst (Over o.noted.variables) (sym can.no_literals) tt;
        end_to_end = subst (λ rs. EndToEnd 0 rs (length o.memory.literals.items)) (sym can.no_records) (sym none);
      };
      lemmas_proper = subst (AllByRecursion (Proper vars)) (sym (starts_empty cs vars o h)) tt;
      literal_room_kept = refl;
      record_room_kept = refl;
      literals_fit = omega arith;
      records_fit = omega arith;
    }

pub runs_keep_order_lem : RunsKeepOrder
runs_keep_order_lem cs vars o e begun turns run = kept_along cs vars o turns o e run (starts_in_order cs vars o begun)

pub lists_hold_live_lemmas_lem : ListsHoldLiveLemmas
lists_hold_live_lemmas_lem cs vars o e begun turns run = live_along cs turns o e run ∙ ap (λ ls. live_after ls turns) (starts_empty cs vars o begun)

-- The rows of `sheet`, each with the rendering that its answer is.
use Rattle.std.proofs.Common.{◌≡◌, ℕ, zero, suc, ◌<◌, ◌≤◌, Bool, true, false, cond, not, ◌&&◌, ltb, leb, ◌⊎◌, List, [], ◌∷◌, ◌++◌, map, length, ℤ, pos, negsuc, nat_abs, codes, sym, refl, ap, ◌∙◌, inl, inr, arith}
use mathlib.Core.Bool.{false≢true}
use Rattle.std.specs.Fmt.{digits}
use Rattle.std.specs.List.{AllByRecursion}
use Rattle.std.proofs.lemmas.List.{length-append, append-nil}
use Rattle.std.proofs.lemmas.Bool.{and_parts, leb-true, ltb-true}
use Rattle.rules.specs.Lists.{In, Once, has}
use Rattle.rules.specs.Steps.{Rule, Lawful, parallel}
use Rattle.rules.specs.Problems.{Problem}
use Rattle.rules.specs.Clauses.{Model}
use Rattle.rules.specs.Formula.{vars, formula}
use Rattle.rules.specs.Sheets.{Sheet, Holds}
use Rattle.rules.proofs.Tests.{in_has}
use Rattle.lines.specs.Cut.{Unended, ended}
use Rattle.answers.specs.declared.status.Status.{Status}
use Rattle.answers.specs.declared.status.Status.TheVariants.{Satisfiable, Unsatisfiable, Unknown}
use Rattle.answers.specs.Rendering.{Rendering, Literal, Closes, s_line, v_line, comment, telling}
use Rattle.problem.specs.Listed.{problem_of}
use Rattle.sheet_call.specs.Replied.{SheetTold}
use Rattle.examples.proofs.Only.{no_model}
use Rattle.examples.specs.Table.{relay, swap, line, Solves, sheets, Told, replies}

sized : ℕ → List ℤ → Bool
sized n [] = true
sized n (l ∷ ls) = (ltb 0 (nat_abs l) && leb (nat_abs l) n) && sized n ls

all_sized : (n : ℕ) (ls : List ℤ) → sized n ls ≡ true → AllByRecursion (Literal n) ls
unfolding sized
all_sized n [] h = tt
all_sized n (l ∷ ls) h =
    let p = and_parts (ltb 0 (nat_abs l) && leb (nat_abs l) n) (sized n ls) h in
    let q = and_parts (ltb 0 (nat_abs l)) (leb (nat_abs l) n) p.0 in
    ((ltb-true 0 (nat_abs l) q.0, leb-true (nat_abs l) n q.1), all_sized n ls p.1)

distinct : List ℕ → Bool
distinct [] = true
distinct (n ∷ ns) = not (has n ns) && distinct ns

all_once : (ns : List ℕ) → distinct ns ≡ true → Once ns
unfolding distinct
all_once [] h = tt
all_once (n ∷ ns) h =
    let p = and_parts (not (has n ns)) (distinct ns) h in
    (λ i. false≢true (sym (ap not (in_has n ns i)) ∙ p.0), all_once ns p.1)

-- a text without a byte has no line
no_lines : (ls : List (List ℕ)) → [] ≡ ended ls → ls ≡ []
no_lines [] e = refl
no_lines (l ∷ ls) e = absurd (omega (arith, ap length e, length-append (l ++ (10 ∷ [])) (ended ls), length-append l (10 ∷ [])))

none_empty : (n : ℕ) (status : Status) (literals : List ℤ) → Rendering n [] status literals → ⊥
none_empty n status literals r =
    let e = sym (ap telling (no_lines r.lines r.whole)) ∙ r.tells in
    let z : ◌≡◌ {A = ℕ} 0 (suc (length (map v_line r.groups))) = ap length e in
    omega arith

-- -1 -2 3 -4 5 -6 -7 8 -9 10
ten : List ℤ
ten = negsuc 0 ∷ negsuc 1 ∷ pos 3 ∷ negsuc 3 ∷ pos 5 ∷ negsuc 5 ∷ negsuc 6 ∷ pos 8 ∷ negsuc 8 ∷ pos 10 ∷ []

relay_answer : Rendering 10 (codes "s SATISFIABLE\nv -1 -2 3 -4 5 -6 -7 8 -9 10 0\n") Satisfiable ten
unfolding digits ten sized distinct
relay_answer = record {
  lines = codes "s SATISFIABLE" ∷ codes "v -1 -2 3 -4 5 -6 -7 8 -9 10 0" ∷ [];
  cut = (refl, (refl, tt));
  whole = refl;
  groups = (ten ++ (pos 0 ∷ [])) ∷ [];
  some = (omega arith, tt);
  tells = refl;
  closes = refl;
  sizes = all_sized 10 ten refl;
  once = all_once (map nat_abs ten) refl;
}

four : List ℤ
four = pos 3 ∷ pos 4 ∷ pos 5 ∷ pos 6 ∷ []

swap_answer : Rendering 6 (codes "c by hand\ns SATISFIABLE\nv 3 4 5\nv 6 0\n") Satisfiable four
unfolding digits four sized distinct
swap_answer = record {
  lines = codes "c by hand" ∷ codes "s SATISFIABLE" ∷ codes "v 3 4 5" ∷ codes "v 6 0" ∷ [];
  cut = (refl, (refl, (refl, (refl, tt))));
  whole = refl;
  groups = (pos 3 ∷ pos 4 ∷ pos 5 ∷ []) ∷ (pos 6 ∷ pos 0 ∷ []) ∷ [];
  some = (omega arith, (omega arith, tt));
  tells = refl;
  closes = refl;
  sizes = all_sized 6 four refl;
  once = all_once (map nat_abs four) refl;
}

-- an answer that is its s line alone
bare : (n : ℕ) (status : Status) → Unended (s_line status) → comment (s_line status) ≡ false → Closes status [] [] → Rendering n (s_line status ++ (10 ∷ [])) status []
bare n status cut told closes = record {
  lines = s_line status ∷ [];
  cut = (cut, tt);
  whole = sym (append-nil (s_line status ++ (10 ∷ [])));
  groups = [];
  some = tt;
  tells = ap (λ b. cond (not b) (s_line status ∷ []) []) told;
  closes = closes;
  sizes = tt;
  once = tt;
}

goal_answer : Rendering 6 (codes "s SATISFIABLE\nv 6 0\n") Satisfiable (pos 6 ∷ [])
unfolding digits sized distinct
goal_answer = record {
  lines = codes "s SATISFIABLE" ∷ codes "v 6 0" ∷ [];
  cut = (refl, (refl, tt));
  whole = refl;
  groups = (pos 6 ∷ pos 0 ∷ []) ∷ [];
  some = (omega arith, tt);
  tells = refl;
  closes = refl;
  sizes = all_sized 6 (pos 6 ∷ []) refl;
  once = all_once (6 ∷ []) refl;
}

no : {n : ℕ} → ◌≡◌ {A = ℕ} (suc n) 0 → ⊥
no e = omega (arith, e)

pub replies_told : AllByRecursion Solves sheets → AllByRecursion Told replies
unfolding digits ten four
replies_told h = (
  inr (inr (record { asked = refl; granted = refl; tells = inl (record { status = Satisfiable; literals = ten; renders = relay_answer; prints = inl (record { lines = line 1 1 ∷ line 2 2 ∷ []; sheet = h.0.is_sheet; holds = h.0.holds; modelled = refl; text = refl }) }) })),
  (
    inr (inr (record { asked = refl; granted = refl; tells = inl (record { status = Satisfiable; literals = four; renders = swap_answer; prints = inl (record { lines = line 1 1 ∷ line 1 2 ∷ []; sheet = h.1.0.is_sheet; holds = h.1.0.holds; modelled = refl; text = refl }) }) })),
    (
      inr (inr (record { asked = refl; granted = refl; tells = inl (record { status = Unsatisfiable; literals = []; renders = bare 6 Unsatisfiable refl refl (refl, refl); prints = refl }) })),
      (
        inr (inr (record { asked = refl; granted = refl; tells = inl (record { status = Unknown; literals = []; renders = bare 6 Unknown refl refl (refl, refl); prints = refl }) })),
        (
          inr (inr (record { asked = refl; granted = refl; tells = inl (record { status = Satisfiable; literals = pos 6 ∷ []; renders = goal_answer; prints = inr (record { none = no_model _ _ _ refl; text = refl }) }) })),
          (
            inr (inr (record { asked = refl; granted = refl; tells = inr (record { none = none_empty 6; says = refl }) })),
            (inl (record { refused = no; says = refl }), (inr (inl (record { asked = refl; refused = no; says = refl })), tt)),
          ),
        ),
      ),
    ),
  ),
)

-- Lines that are named and lead, each, are a sheet.
use Rattle.std.proofs.Common.{◌≡◌, ℕ, zero, suc, ◌+◌, ◌-◌, ◌<◌, ◌≤◌, Bool, true, false, ◌&&◌, leb, List, [], ◌∷◌, length, get_or, Option, Some, None, MatchOption, IsTrue, sym, refl, subst, ap, ◌∙◌, inl, inr, ⊎_elim, arith}
use Rattle.std.proofs.ByRecursion.{All-weaker}
use Rattle.std.specs.List.{IsAllAdjacentAnswer, list_all}
use Rattle.std.proofs.lemmas.Bool.{ltb-true, lt-ltb, leb-true, le-leb, eqb-true, eq-eqb, and_parts, and_from, and_left, and_right, and_cases, or_cases, or_left, or_right, both_ways}
use Rattle.std.specs.Slice.{IsGetResult}
use denote.Ref.{Bor}
use Rattle.rules.specs.declared.line.Line.{Line}
use Rattle.rules.specs.Lists.{In}
use Rattle.rules.specs.Problems.{Problem}
use Rattle.rules.specs.Sheets.{Earlier, Rising, Sheet}
use Rattle.rules.proofs.Members.{counting_in, in_counting}
use Rattle.problem.specs.Tables.{means}
use Rattle.assigning.specs.declared.lines.SheetLines.{SheetLines}
use Rattle.assigning.specs.Rows.{earlier, named, rises, rows}

test_earlier : (l m : Line) → earlier l m ≡ true → Earlier l m
test_earlier l m e =
    ⊎_elim
    (λ (h : _). inl (ltb-true l.slot m.slot h))
    (λ (h : _). let k = and_parts _ _ h in inr (eqb-true l.slot m.slot k.0, ltb-true l.step m.step k.1))
    (or_cases _ _ e)

earlier_test : (l m : Line) → Earlier l m → earlier l m ≡ true
earlier_test l m (inl h) = or_left _ _ (lt-ltb l.slot m.slot h)
earlier_test l m (inr h) = or_right _ _ (and_from _ _ (eq-eqb l.slot m.slot h.0) (lt-ltb l.step m.step h.1))

earlier_trans : (l m n : Line) → Earlier l m → Earlier m n → Earlier l n
earlier_trans l m n (inl h) (inl k) = inl (omega arith)
earlier_trans l m n (inl h) (inr k) = inl (omega arith)
earlier_trans l m n (inr h) (inl k) = inl (omega arith)
earlier_trans l m n (inr h) (inr k) = inr (h.0 ∙ k.0, omega arith)

-- what a read past the lines would give
abbrev pub no_line : Line
no_line = record { slot = 0; step = 0 }

-- the lines, taken two by two
rises_true : (ls : List Line) → ((k : ℕ) (d : Line) → suc k < length ls → earlier (get_or ls k d) (get_or ls (suc k) d) ≡ true) → rises ls ≡ true
rises_true [] h = refl
rises_true (l ∷ []) h = refl
rises_true (l ∷ m ∷ ms) h = and_from _ _ (h 0 l (omega arith)) (rises_true (m ∷ ms) (λ k d b. h (suc k) d (omega (arith, b))))

rises_false : (ls : List Line) (k : ℕ) (d : Line) → suc k < length ls → earlier (get_or ls k d) (get_or ls (suc k) d) ≡ false → rises ls ≡ false
rises_false [] k d b e = absurd (omega (arith, b))
rises_false (l ∷ []) k d b e = absurd (omega (arith, b))
rises_false (l ∷ m ∷ ms) zero d b e = and_left _ _ e
rises_false (l ∷ m ∷ ms) (suc k) d b e = and_right _ _ (rises_false (m ∷ ms) k d (omega (arith, b)) e)

rises_rising : (ls : List Line) → rises ls ≡ true → Rising ls
rises_rising [] e = tt
rises_rising (l ∷ []) e = (tt, tt)
rises_rising (l ∷ m ∷ ms) e =
    let k = and_parts _ _ e in
    let h = test_earlier l m k.0 in
    let r = rises_rising (m ∷ ms) k.1 in
    ((h, All-weaker (Earlier m) (Earlier l) (λ n. earlier_trans l m n h) ms r.0), r)

rising_rises : (ls : List Line) → Rising ls → rises ls ≡ true
rising_rises [] r = refl
rising_rises (l ∷ []) r = refl
rising_rises (l ∷ m ∷ ms) r = and_from _ _ (earlier_test l m r.0.0) (rising_rises (m ∷ ms) r.1)

module _ (p : Line → Bool) where
  all_in : (ls : List Line) → list_all p ls ≡ true → (l : Line) → In l ls → p l ≡ true
  all_in [] e l m = elim m [ ]
  all_in (x ∷ ls) e l (inl i) = ap p i ∙ (and_parts _ _ e).0
  all_in (x ∷ ls) e l (inr m) = all_in ls (and_parts _ _ e).1 l m

  in_all : (ls : List Line) → ((l : Line) → In l ls → p l ≡ true) → list_all p ls ≡ true
  in_all [] h = refl
  in_all (x ∷ ls) h = and_from _ _ (h x (inl refl)) (in_all ls (λ l m. h l (inr m)))

  not_all : (ls : List Line) (k : ℕ) (d : Line) → k < length ls → p (get_or ls k d) ≡ false → list_all p ls ≡ false
  not_all [] k d b e = absurd (omega (arith, b))
  not_all (x ∷ xs) zero d b e = and_left _ _ e
  not_all (x ∷ xs) (suc k) d b e = and_right _ _ (not_all xs k d (omega (arith, b)) e)

  -- where the test holds up to the last, the last decides
  to_last : (l : Line) (ls : List Line) → ((k : ℕ) (d : Line) → suc k < length (l ∷ ls) → p (get_or (l ∷ ls) k d) ≡ true) → (d : Line) → list_all p (l ∷ ls) ≡ p (get_or (l ∷ ls) (length ls) d)
  to_last l [] h d = elim (p l) as (λ (b : Bool). (b && true) ≡ b) [ true ↦ refl | false ↦ refl ]
  to_last l (m ∷ ms) h d = ap (λ b. b && list_all p (m ∷ ms)) (h 0 d (omega arith)) ∙ to_last m ms (λ k e b. h (suc k) e (omega (arith, b))) d

-- what the library says of the lines, where each pair is asked whether the first is named and earlier than the second
module _ (slots steps : ℕ) where
  abbrev pub Steady : List Line → Bool → Type 0
  Steady = IsAllAdjacentAnswer (λ l m b. b ≡ (named slots steps l && earlier l m))

  next : (ls : List Line) (k : ℕ) (d : Line) (b : Bool) → b ≡ (named slots steps (get_or ls k d) && earlier (get_or ls k d) (get_or ls (k + 1) d)) → (named slots steps (get_or ls k d) && earlier (get_or ls k d) (get_or ls (suc k) d)) ≡ b
  next ls k d b e = let one : k + 1 ≡ suc k = omega arith in subst (λ n. (named slots steps (get_or ls k d) && earlier (get_or ls k d) (get_or ls n d)) ≡ b) one (sym e)

  pub unsteady_rows : (ls : List Line) → Steady ls false → rows slots steps ls ≡ false
  unsteady_rows ls h =
      ⊎_elim
      (λ (e : _). and_right _ _ (not_all (named slots steps) ls h.0 no_line (omega (arith, h.1)) e))
      (λ (e : _). and_left _ _ (rises_false ls h.0 no_line (omega (arith, h.1)) e))
      (and_cases _ _ (next ls h.0 no_line false (h.2 no_line)))

  pub steady_rows : (ls : List Line) (r : Bool) (last : Option (Bor Line)) → Steady ls true → IsGetResult ls 0 (length ls - 1) last → MatchOption last (IsTrue r) (λ l. r ≡ named slots steps l.now) → r ≡ rows slots steps ls
  steady_rows [] r None h g e = e
  steady_rows [] r (Some l) h g e = absurd (omega (arith, g.3.0))
  steady_rows (l ∷ ls) r None h g e = absurd (omega (arith, g.3))
  steady_rows (l ∷ ls) r (Some m) h g e =
      let end : length (l ∷ ls) - 1 ≡ length ls = omega arith in
      let pair : (k : ℕ) (d : Line) → suc k < length (l ∷ ls) → (named slots steps (get_or (l ∷ ls) k d) && earlier (get_or (l ∷ ls) k d) (get_or (l ∷ ls) (suc k) d)) ≡ true = λ k d b. next (l ∷ ls) k d true (h k d (omega (arith, b))) in
      let rise : rises (l ∷ ls) ≡ true = rises_true (l ∷ ls) (λ k d b. (and_parts _ _ (pair k d b)).1) in
      let each : list_all (named slots steps) (l ∷ ls) ≡ named slots steps (get_or (l ∷ ls) (length ls) m.now) = to_last (named slots steps) l ls (λ k d b. (and_parts _ _ (pair k d b)).0) m.now in
      e ∙ ap (named slots steps) (g.1 ∙ ap (λ n. get_or (l ∷ ls) n m.now) end) ∙ sym each ∙ sym (ap (λ b. b && list_all (named slots steps) (l ∷ ls)) rise)

named_within : (slots steps : ℕ) (l : Line) → named slots steps l ≡ true → (1 ≤ l.slot) × (l.slot ≤ slots) × (1 ≤ l.step) × (l.step ≤ steps)
named_within slots steps l e =
    let k = and_parts (leb 1 l.slot && leb l.slot slots) (leb 1 l.step && leb l.step steps) e in
    let a = and_parts (leb 1 l.slot) (leb l.slot slots) k.0 in
    let b = and_parts (leb 1 l.step) (leb l.step steps) k.1 in
    (leb-true 1 l.slot a.0, leb-true l.slot slots a.1, leb-true 1 l.step b.0, leb-true l.step steps b.1)

module _ (p : Problem) (horizon : ℕ) (ls : List Line) where
  pub rows_sheet : rows horizon p.steps ls ≡ true → Sheet p horizon ls
  rows_sheet e =
      let k = and_parts _ _ e in
      let within = λ (l : Line) (m : In l ls). named_within horizon p.steps l (all_in (named horizon p.steps) ls k.1 l m) in
      record {
        rising = rises_rising ls k.0;
        slots_in = λ l m. let w = within l m in in_counting 1 horizon l.slot w.0 (omega (arith, w.1));
        steps_in = λ l m. let w = within l m in in_counting 1 p.steps l.step w.2 (omega (arith, w.3));
      }

  pub no_sheet : rows horizon p.steps ls ≡ false → Sheet p horizon ls → ⊥
  no_sheet e s =
      both_ways _ e (and_from _ _ (rising_rises ls s.rising) (in_all (named horizon p.steps) ls (λ l m.
      let a = counting_in 1 horizon l.slot (s.slots_in l m) in
      let b = counting_in 1 p.steps l.step (s.steps_in l m) in
      and_from _ _ (and_from _ _ (le-leb 1 l.slot a.0) (le-leb l.slot horizon (omega (arith, a.1)))) (and_from _ _ (le-leb 1 l.step b.0) (le-leb l.step p.steps (omega (arith, b.1)))))))

in_get_or : (xs : List Line) (i : ℕ) (d : Line) → i < length xs → In (get_or xs i d) xs
in_get_or [] i d h = absurd (omega arith)
in_get_or (x ∷ xs) zero d h = inl refl
in_get_or (x ∷ xs) (suc i) d h = inr (in_get_or xs i d (omega arith))

-- where the lines of a sheet point
module _ (p : Problem) (horizon : ℕ) (ls : List Line) where
  pub line_within : Sheet p horizon ls → (i : ℕ) (d : Line) → i < length ls → (1 ≤ (get_or ls i d).slot) × ((get_or ls i d).slot ≤ horizon) × (1 ≤ (get_or ls i d).step) × ((get_or ls i d).step ≤ p.steps)
  line_within s i d h =
      let m = in_get_or ls i d h in
      let a = counting_in 1 horizon (get_or ls i d).slot (s.slots_in (get_or ls i d) m) in
      let b = counting_in 1 p.steps (get_or ls i d).step (s.steps_in (get_or ls i d) m) in
      (a.0, omega (arith, a.1), b.0, omega (arith, b.1))

abbrev pub line_at : SheetLines → ℕ → Line
line_at s i = get_or s.lines.now i no_line

-- the same in every table of 32 slots and 128 steps
pub line_in_table : (s : SheetLines) (i : ℕ) → i < length s.lines.now → (1 ≤ (line_at s i).slot) × ((line_at s i).slot ≤ 32) × (1 ≤ (line_at s i).step) × ((line_at s i).step ≤ 128)
line_in_table s i h =
    let t = s.table.now in
    let ls = s.lines.now in
    let w = line_within (means t) s.horizon ls (rows_sheet (means t) s.horizon ls s.sheet) i no_line h in
    (w.0, omega (arith, w.1, s.few), w.2, omega (arith, w.3, t.few.1))

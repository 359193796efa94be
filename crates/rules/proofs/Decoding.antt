-- The sheet that is read off a valuation, and when two lists of values are equal.
use Rattle.std.proofs.Common.{◌≡◌, ℕ, zero, suc, ◌+◌, ◌-◌, ◌*◌, ◌/◌, ◌%◌, ◌<◌, ◌≤◌, Bool, true, false, cond, ◌⊎◌, ◌↔◌, List, [], ◌∷◌, ◌++◌, map, length, get_or, filter, sym, refl, ap, ◌∙◌, subst, inl, inr, ⊎_elim, mul-le-mul_right, arith, ext_get_or}
use Rattle.std.specs.List.{range_with_len}
use Rattle.std.proofs.lemmas.Bool.{cases_lt}
use Rattle.rules.specs.Lists.{In, each}
use Rattle.rules.specs.declared.line.Line.{Line}
use Rattle.rules.specs.Problems.{Problem, facts_of, steps_of}
use Rattle.rules.specs.Clauses.{Valuation, value}
use Rattle.rules.specs.Formula.{width, fact_var, step_var, vars}
use Rattle.rules.specs.Sheets.{Earlier, Rising, Sheet, slot, sheet_of}
use Rattle.rules.proofs.Lines.{slot_in, in_slot}
use Rattle.rules.proofs.Members.{append_in, counting_in, in_counting, each_in, in_each, map_in, in_map, kept_in, in_kept, all_in, in_all}

-- each variable is a fact's or a step's
pub Place : Problem → ℕ → ℕ → Type 0
Place p horizon i = ((t : ℕ) × (f : ℕ) × (t ≤ horizon) × In f (facts_of p) × (i ≡ fact_var p t f - 1)) ⊎ ((u : ℕ) × (a : ℕ) × (u < horizon) × In a (steps_of p) × (i ≡ step_var p u a - 1))

times_lt : (a b w r s : ℕ) → a * w + r < b * w + s → s ≤ r → a < b
times_lt a b w r s h k = ⊎_elim (λ l. l) (λ (l : b ≤ a). let q = mul-le-mul_right w l in absurd (omega arith)) (cases_lt a b)

times_le : (a b w r s : ℕ) → a * w + r < b * w + s → s ≤ w → a ≤ b
times_le a b w r s h k = ⊎_elim (λ (l : a ≤ b). l) (λ (l : b < a). let q = mul-le-mul_right w l in absurd (omega arith)) (flip (cases_lt b a))
  where
    flip : (b < a) ⊎ (a ≤ b) → (a ≤ b) ⊎ (b < a)
    flip (inl h) = inr h
    flip (inr h) = inl h

pub place : (p : Problem) (horizon i : ℕ) → i < vars p horizon → Place p horizon i
unfolding Place
place p horizon i h =
    let w : ℕ = width p in
    let q : ℕ = i / w in
    let r : ℕ = i % w in
    let w-pos : 0 < w = some_width in
    let e : i ≡ q * w + r = omega arith in
    let small : r < w = omega arith in
    let below : q * w + r < horizon * w + p.facts = omega arith in
    ⊎_elim
    (λ (l : r < p.facts). inl (q, r + 1, times_le q horizon w r p.facts below (omega arith), in_counting 1 p.facts (r + 1) (omega arith) (omega arith), omega arith))
    (λ (l : p.facts ≤ r). inr (q, r - p.facts + 1, times_lt q horizon w r p.facts below l, in_counting 1 p.steps (r - p.facts + 1) (omega arith) (omega arith), omega arith))
    (cases_lt r p.facts)
  where
    no_width : (n : ℕ) → n ≡ 0 → horizon * n ≡ 0
    no_width n e = rw e (omega arith)

    some_width : 0 < width p
    some_width = ⊎_elim (λ (l : 0 < width p). l) (λ (l : width p ≤ 0). let z = no_width (width p) (omega arith) in absurd (omega arith)) (cases_lt 0 (width p))

pub agree : (p : Problem) (horizon : ℕ) (vs ws : List Bool) → length vs ≡ vars p horizon → length ws ≡ vars p horizon → ((t f : ℕ) → t ≤ horizon → In f (facts_of p) → value vs (fact_var p t f) ≡ value ws (fact_var p t f)) → ((u a : ℕ) → u < horizon → In a (steps_of p) → value vs (step_var p u a) ≡ value ws (step_var p u a)) → vs ≡ ws
unfolding Place
agree p horizon vs ws m n facts steps = ext_get_or false vs ws (m ∙ sym n) (λ i h. at i (place p horizon i (rw (sym m) h)))
  where
    at : (i : ℕ) → Place p horizon i → get_or vs i false ≡ get_or ws i false
    at i (inl (t, f, h, k, e)) = rw e (facts t f h k)
    at i (inr (u, a, h, k, e)) = rw e (steps u a h k)

-- lists of lines that rise
rising_append : (xs ys : List Line) → Rising xs → Rising ys → ((x y : Line) → In x xs → In y ys → Earlier x y) → Rising (xs ++ ys)
rising_append [] ys r s h = s
rising_append (x ∷ xs) ys r s h =
    (in_all (Earlier x) (xs ++ ys) (λ y m. ⊎_elim (λ (n : In y xs). all_in (Earlier x) xs r.0 y n) (λ (n : In y ys). h x y (inl refl) n) (append_in y xs ys m)), rising_append xs ys r.1 s (λ a b m n. h a b (inr m) n))

module _ (t : ℕ) (c : ℕ → Bool) where
  rising_block : (lo n : ℕ) → Rising (map (λ a. record { slot = t; step = a }) (filter c (range_with_len lo n)))
  rising_block lo zero = tt
  rising_block lo (suc n) = go (rising_block (lo + 1) n) (c lo)
    where
      go : Rising (map (λ a. record { slot = t; step = a }) (filter c (range_with_len (lo + 1) n))) → (b : Bool) → Rising (map (λ a. record { slot = t; step = a }) (cond b (lo ∷ filter c (range_with_len (lo + 1) n)) (filter c (range_with_len (lo + 1) n))))
      go ih false = ih
      go ih true = (
        in_all (Earlier (record { slot = t; step = lo })) (map (λ a. record { slot = t; step = a }) (filter c (range_with_len (lo + 1) n))) (λ l m.
            let (a, k, e) = map_in {Y = Line} (λ a. record { slot = t; step = a }) (filter c (range_with_len (lo + 1) n)) l m in
            let r = counting_in (lo + 1) n a (kept_in c (range_with_len (lo + 1) n) a k).0 in
            let e0 : l.slot ≡ t = ap (λ z. z.slot) e in
            let e1 : l.step ≡ a = ap (λ z. z.step) e in
            inr (sym e0, omega arith)),
        ih,
      )

module _ (p : Problem) (w : Valuation) where
  -- the lines of slot u + 1
  abbrev block : ℕ → List Line
  block u = map (λ a. record { slot = suc u; step = a }) (filter (λ a. w (step_var p u a)) (steps_of p))

  block_in : (u : ℕ) (l : Line) → In l (block u) → (l.slot ≡ suc u) × In l.step (steps_of p) × (w (step_var p u l.step) ≡ true)
  block_in u l m =
      let (a, k, e) = map_in {Y = Line} (λ a. record { slot = suc u; step = a }) (filter (λ a. w (step_var p u a)) (steps_of p)) l m in
      let (n, t) = kept_in (λ a. w (step_var p u a)) (steps_of p) a k in
      let e1 : a ≡ l.step = sym (ap (λ z. z.step) e) in
      (ap (λ z. z.slot) e, subst (λ z. In z (steps_of p)) e1 n, subst (λ z. w (step_var p u z) ≡ true) e1 t)

  blocks_rise : (lo n : ℕ) → Rising (each block (range_with_len lo n))
  blocks_rise lo zero = tt
  blocks_rise lo (suc n) =
      rising_append (block lo) (each block (range_with_len (lo + 1) n)) (rising_block (suc lo) (λ a. w (step_var p lo a)) 1 p.steps) (blocks_rise (lo + 1) n) (λ x y m k.
      let r = (block_in lo x m).0 in
      let (u, i, j) = each_in block (range_with_len (lo + 1) n) y k in
      let s = (block_in u y j).0 in
      let b = counting_in (lo + 1) n u i in
      inl (omega arith))

  module _ (horizon : ℕ) where
    pub sheet_in : (l : Line) → In l (sheet_of p horizon w) → (u : ℕ) × (u < horizon) × (l.slot ≡ suc u) × In l.step (steps_of p) × (w (step_var p u l.step) ≡ true)
    sheet_in l m =
        let (u, i, j) = each_in block (range_with_len 0 horizon) l m in
        let b = counting_in 0 horizon u i in
        let r = block_in u l j in
        (u, omega arith, r.0, r.1, r.2)

    pub in_sheet : (u a : ℕ) → u < horizon → In a (steps_of p) → w (step_var p u a) ≡ true → In (record { slot = suc u; step = a }) (sheet_of p horizon w)
    in_sheet u a h m e = in_each block (range_with_len 0 horizon) u (record { slot = suc u; step = a }) (in_counting 0 horizon u (omega arith) (omega arith)) (in_map {Y = Line} (λ a. record { slot = suc u; step = a }) (filter (λ a. w (step_var p u a)) (steps_of p)) a (in_kept (λ a. w (step_var p u a)) (steps_of p) a m e))

    pub is_sheet : Sheet p horizon (sheet_of p horizon w)
    is_sheet = record {
      rising = blocks_rise 0 horizon;
      slots_in = λ l m. let (u, h, e, n, t) = sheet_in l m in in_counting 1 horizon l.slot (omega arith) (omega arith);
      steps_in = λ l m. (sheet_in l m).3;
    }

    pub sheet_slot : (u : ℕ) → u < horizon → (a : ℕ) → In a (slot (sheet_of p horizon w) (suc u)) ↔ (In a (steps_of p) × (w (step_var p u a) ≡ true))
    sheet_slot u h a = (
      λ m. let (v, k, e, n, t) = sheet_in (record { slot = suc u; step = a }) (slot_in (sheet_of p horizon w) (suc u) a m) in let i : v ≡ u = omega arith in (n, subst (λ z. w (step_var p z a) ≡ true) i t),
      λ r. in_slot (sheet_of p horizon w) (suc u) a (in_sheet u a h r.0 r.1),
    )

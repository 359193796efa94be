-- What is computed of a variable is what the sheet says of it.
use Rattle.std.proofs.Common.{◌≡◌, ℕ, suc, ◌+◌, ◌-◌, ◌*◌, ◌/◌, ◌%◌, ◌<◌, ◌≤◌, Bool, true, false, cond, not, ◌&&◌, ◌||◌, eqb, List, [], ◌∷◌, ◌++◌, map, length, get_or, take, set, sym, refl, subst, ap, ◌∙◌, ⊎_elim, mul-le-mul_right, suc-mul, arith}
use lib.Arith.{digits_div, digits_mod}
use mir.Val.{bool_byte}
use Rattle.std.specs.List.{range_with_len}
use Rattle.std.proofs.lemmas.Nat.{div_below, mod_below, div-add-mod', mul-le}
use Rattle.std.proofs.lemmas.List.FromFn.{length-map-range_with_len, get_or-map-range_with_len, map-range_with_len_more}
use Rattle.std.proofs.lemmas.List.{get_or-take, get_or-map, take_more_set, map_push}
use Rattle.std.proofs.lemmas.Bool.{cases_lt, cases_eq, cond-true, cond-false, lt-ltb, le-ltb, eq-eqb, ne_eqb}
use Rattle.rules.specs.declared.line.Line.{Line}
use Rattle.rules.specs.Lists.{any, has}
use Rattle.rules.specs.Problems.{Problem}
use Rattle.rules.specs.Formula.{width, vars}
use Rattle.rules.specs.Sheets.{slot, state, chosen, valued, model}
use Rattle.steps.specs.Sets.{facts_in}
use Rattle.checking.specs.Told.{bytes_of}
use Rattle.assigning.specs.declared.gathering.SlotChange.{SlotChange}
use Rattle.assigning.specs.Slots.{no_change, Marks, Changes, computed}

-- which slots a place below 32 whole slots and the facts after them is in
module _ (w f i : ℕ) (pos : 0 < w) (few : f ≤ w) (h : i < 32 * w + f) where
  pub slot_most : i / w ≤ 32
  slot_most = let l = div_below i w 33 pos (omega arith) in omega (arith, l)

  pub slot_below : f ≤ i % w → i / w < 32
  slot_below k =
      ⊎_elim
      (λ (l : i / w < 32). l)
      (λ (l : 32 ≤ i / w). let q = mul-le-mul_right w l in absurd (omega (arith, q, div-add-mod' i w)))
      (cases_lt (i / w) 32)

pub past_first : (w i : ℕ) → 0 < w → (i / w ≡ 0 → ⊥) → w ≤ i
past_first w i pos ne = ⊎_elim (λ (l : i < w). let d = div_below i w 1 pos (omega arith) in absurd (ne (omega (arith, d)))) (λ (l : w ≤ i). l) (cases_lt i w)

bit_back : (b : Bool) → eqb (cond b 1 0) 1 ≡ b
bit_back true = refl
bit_back false = refl

-- a byte that is known tells its value
known_at : (v : ℕ → Bool) (known : List ℕ) (i j : ℕ) → j < i → take i known ≡ bytes_of (map v (range_with_len 0 i)) → eqb (get_or known j 0) 1 ≡ v j
known_at v known i j h e =
    let within : j < length (map v (range_with_len 0 i)) = omega (arith, length-map-range_with_len v 0 i) in
    let zero-add : 0 + j ≡ j = omega arith in
    let b : get_or known j 0 ≡ cond (v j) 1 0 = sym (get_or-take i known j 0 h) ∙ ap (λ xs. get_or xs j 0) e ∙ get_or-map (λ (t : Bool). cond t 1 0) (map v (range_with_len 0 i)) j false 0 within ∙ ap (λ (t : Bool). cond t 1 0) (get_or-map-range_with_len v 0 i j j false h zero-add) in
    ap (λ n. eqb n 1) b ∙ bit_back (v j)

module _ (p : Problem) (lines : List Line) (marks : List Bool) (changes : List SlotChange) (known : List ℕ) (i : ℕ) (pos : 0 < width p) (few : p.steps ≤ 128) (h : i < 32 * width p + p.facts) (m : Marks lines marks) (c : Changes p lines changes) (e : take i known ≡ bytes_of (map (valued p lines) (range_with_len 0 i))) where
  -- a step
  step_value : p.facts ≤ i % width p → get_or marks (128 * (i / width p) + (i % width p - p.facts)) false ≡ chosen lines (suc (i / width p)) (i % width p - p.facts + 1)
  step_value l =
      let t = i / width p in
      let k = i % width p in
      let small = mod_below i (width p) pos in
      let place : 128 * t + (k - p.facts) ≡ 128 * t + (k - p.facts + 1 - 1) = omega arith in
      ap (λ n. get_or marks n false) place ∙ m.marked t (k - p.facts + 1) (slot_below (width p) p.facts i pos (omega arith) h l) (omega arith) (omega arith)

  -- a fact after a slot
  later_value : i % width p < p.facts → (i / width p ≡ 0 → ⊥) → ((eqb (get_or known (i - width p) 0) 1 && not (has (i % width p + 1) (facts_in (get_or changes (i / width p - 1) no_change).clears))) || has (i % width p + 1) (facts_in (get_or changes (i / width p - 1) no_change).sets)) ≡ state p lines (i / width p) (i % width p + 1)
  later_value l ne =
      let w = width p in
      let u = i / w - 1 in
      let k = i % w in
      let small = mod_below i w pos in
      let top = slot_most w p.facts i pos (omega arith) h in
      let one : i / w ≡ suc u = omega arith in
      let in_slot : u < 32 = omega arith in
      let long = past_first w i pos ne in
      let back : i - w ≡ u * w + k = omega (arith, div-add-mod' i w, ap (λ n. n * w) one, suc-mul u w) in
      let d : (i - w) / w ≡ u = ap (λ n. n / w) back ∙ digits_div u small in
      let r : (i - w) % w ≡ k = ap (λ n. n % w) back ∙ digits_mod u small in
      let b : valued p lines (i - w) ≡ state p lines u (k + 1) = simp (d, r, lt-ltb k p.facts l) in
      let before : eqb (get_or known (i - w) 0) 1 ≡ state p lines u (k + 1) = known_at (valued p lines) known i (i - w) (omega arith) e ∙ b in
      ap (λ (t : Bool). (t && not (has (k + 1) (facts_in (get_or changes u no_change).clears))) || has (k + 1) (facts_in (get_or changes u no_change).sets)) before
      ∙ ap (λ (t : Bool). (state p lines u (k + 1) && not t) || has (k + 1) (facts_in (get_or changes u no_change).sets)) (c.clears u (k + 1) in_slot)
      ∙ ap (λ (t : Bool). (state p lines u (k + 1) && not (any (λ a. has (k + 1) (p.clears a)) (slot lines (suc u)))) || t) (c.sets u (k + 1) in_slot)
      ∙ sym (ap (λ n. state p lines n (k + 1)) one)

  fact_value : i % width p < p.facts → cond (eqb (i / width p) 0) (has (i % width p + 1) p.start) ((eqb (get_or known (i - width p) 0) 1 && not (has (i % width p + 1) (facts_in (get_or changes (i / width p - 1) no_change).clears))) || has (i % width p + 1) (facts_in (get_or changes (i / width p - 1) no_change).sets)) ≡ state p lines (i / width p) (i % width p + 1)
  fact_value l =
      ⊎_elim
      (λ (z : i / width p ≡ 0). cond-true (eqb (i / width p) 0) _ _ (eq-eqb (i / width p) 0 z) ∙ sym (ap (λ n. state p lines n (i % width p + 1)) z))
      (λ (ne : i / width p ≡ 0 → ⊥). cond-false (eqb (i / width p) 0) _ _ (ne_eqb (i / width p) 0 ne) ∙ later_value l ne)
      (cases_eq (i / width p) 0)

  pub computed_valued : computed p marks changes known i ≡ valued p lines i
  computed_valued =
      ⊎_elim
      (λ (l : i % width p < p.facts). let b = lt-ltb (i % width p) p.facts l in cond-true _ _ _ b ∙ fact_value l ∙ sym (cond-true _ _ _ b))
      (λ (l : p.facts ≤ i % width p). let b = le-ltb (i % width p) p.facts l in cond-false _ _ _ b ∙ step_value l ∙ sym (cond-false _ _ _ b))
      (cases_lt (i % width p) p.facts)

-- one byte more
pub built_more : (f : ℕ → Bool) (bytes : List ℕ) (i : ℕ) (v : Bool) → i < length bytes → v ≡ f i → take i bytes ≡ bytes_of (map f (range_with_len 0 i)) → take (i + 1) (set bytes i (bool_byte v)) ≡ bytes_of (map f (range_with_len 0 (i + 1)))
built_more f bytes i v l e h =
    let zero-add : 0 + i ≡ i = omega arith in
    take_more_set bytes i (bool_byte v) l
    ∙ ap (λ (xs : List ℕ). xs ++ bool_byte v ∷ []) h
    ∙ ap (λ x. bytes_of (map f (range_with_len 0 i)) ++ x ∷ []) (as_byte v ∙ ap (λ (t : Bool). cond t 1 0) e)
    ∙ sym (ap bytes_of (map-range_with_len_more f 0 i i zero-add) ∙ map_push (λ (t : Bool). cond t 1 0) (map f (range_with_len 0 i)) (f i))
  where
    as_byte : (b : Bool) → bool_byte b ≡ cond b 1 0
    as_byte true = refl
    as_byte false = refl

-- 32 slots of 64 facts and 128 steps, and the facts after the last
pub most : (t f a : ℕ) → t ≤ 32 → f ≤ 64 → a ≤ 128 → t * (f + a) + f ≤ 6208
most t f a h k l = let q = mul-le t (f + a) 32 192 h (omega arith) in omega (arith, q)

-- the bytes that are built, told of equal parts
pub builds_as : {p q : Problem} {t u : ℕ} {ls ms : List Line} (bytes : List ℕ) → p ≡ q → t ≡ u → ls ≡ ms → take (vars p t) bytes ≡ bytes_of (model p t ls) → take (vars q u) bytes ≡ bytes_of (model q u ms)
builds_as {p} {q} {t} {u} {ls} {ms} bytes e k h d = subst (λ (x : Problem). take (vars x u) bytes ≡ bytes_of (model x u ms)) e (subst (λ n. take (vars p n) bytes ≡ bytes_of (model p n ms)) k (subst (λ (xs : List Line). take (vars p t) bytes ≡ bytes_of (model p t xs)) h d))

-- Propagation forces at most as many literals as there are variables left.
use Rattle.std.proofs.Common.{◌≡◌, ℕ, zero, suc, ◌+◌, ◌≤◌, ◌⊎◌, List, [], ◌∷◌, map, length, get_or, drop, ℤ, pos, negsuc, neg_ℤ, nat_abs, sym, refl, ap, ◌∙◌, subst, inl, inr, ⊎_elim, arith}
use lib.ListN.{length-map}
use Rattle.std.specs.List.{range_with_len, AllByRecursion}
use Rattle.std.proofs.ByRecursion.{All-append, All-get_or, All-take, All-drop}
use Rattle.std.proofs.lemmas.List.FromFn.{length-range_with_len}
use Rattle.rules.specs.Lists.{In, Once}
use Rattle.rules.specs.Clauses.{Clause}
use Rattle.rules.specs.Propagation.{Trail, Propagates, halt, force, opposites, Shown}
use Rattle.rules.proofs.Members.{map_in, all_in, in_counting}
use Rattle.runs.specs.Memory.{lemma_at, lemmas_in}
use Rattle.runs.specs.declared.place.Record.{Record}
use Rattle.runs.specs.Calls.{Refutation, known, Over, AsNoted}
use Rattle.runs.specs.Laws.{CountsWithinVariables}
use Rattle.runs.proofs.Granting.{lemma_met, conclude_met}

-- a list without repetition is no longer than one that has all its members
module _ {X : Type 0} where
  without : (x : X) (ys : List X) → In x ys → List X
  without x [] m = []
  without x (y ∷ ys) (inl e) = ys
  without x (y ∷ ys) (inr m) = y ∷ without x ys m

  without_length : (x : X) (ys : List X) (m : In x ys) → length ys ≡ suc (length (without x ys m))
  unfolding without
  without_length x [] m = elim m [ ]
  without_length x (y ∷ ys) (inl e) = refl
  without_length x (y ∷ ys) (inr m) = ap suc (without_length x ys m)

  in_without : (x : X) (ys : List X) (m : In x ys) (z : X) → In z ys → (z ≡ x → ⊥) → In z (without x ys m)
  unfolding without
  in_without x [] m z k n = elim m [ ]
  in_without x (y ∷ ys) (inl e) z (inl q) n = absurd (n (q ∙ sym e))
  in_without x (y ∷ ys) (inl e) z (inr k) n = k
  in_without x (y ∷ ys) (inr m) z (inl q) n = inl q
  in_without x (y ∷ ys) (inr m) z (inr k) n = inr (in_without x ys m z k n)

  once_length : (xs ys : List X) → Once xs → ((x : X) → In x xs → In x ys) → length xs ≤ length ys
  once_length [] ys o sub = omega arith
  once_length (x ∷ xs) ys o sub =
      let m = sub x (inl refl) in
      omega (arith, without_length x ys m, once_length xs (without x ys m) o.1 (λ z k. in_without x ys m z (sub z (inr k)) (λ e. o.0 (subst (λ w. In w xs) e k))))

abbrev Of : ℕ → ℤ → Type 0
Of vars l = (1 ≤ nat_abs l) × (nat_abs l ≤ vars)

trail_length : (vars : ℕ) (t : Trail) → Over vars t → Once (map nat_abs t) → length t ≤ vars
trail_length vars t over once =
    omega (arith, length-map t nat_abs, length-range_with_len 1 vars, once_length (map nat_abs t) (range_with_len 1 vars) once (λ v m. let (l, i, e) = map_in nat_abs t v m in let h = all_in (Of vars) t over l i in in_counting 1 vars v (omega arith) (omega arith)))

same_size : (l m : ℤ) → nat_abs l ≡ nat_abs m → (l ≡ m) ⊎ (neg_ℤ l ≡ m)
same_size (pos a) (pos b) e = inl (ap pos e)
same_size (pos a) (negsuc b) e = inr (ap (λ n. neg_ℤ (pos n)) e)
same_size (negsuc a) (pos b) e = inr (ap pos e)
same_size (negsuc a) (negsuc b) e = inl (ap (λ n. neg_ℤ (pos n)) e)

-- each forced literal is of a variable that the trail does not have yet
forced_few : {cs : List Clause} {t e : Trail} {n : ℕ} (vars : ℕ) → AllByRecursion (Over vars) cs → Propagates cs t n e → Over vars t → Once (map nat_abs t) → length t + n ≤ vars
forced_few {cs} {t} vars os halt over once = omega (arith, trail_length vars t over once)
forced_few {cs} {t} vars os (force {i = i} {l = l} u low more) over once =
    let h = all_in (Of vars) (get_or cs i []) (All-get_or (Over vars) cs i [] low.within os) l low.forces.member in
    let new : In (nat_abs l) (map nat_abs t) → ⊥ = λ m. let (k, j, e) = map_in nat_abs t (nat_abs l) m in ⊎_elim (λ q. low.forces.is_open.0 (subst (λ z. In z t) (sym q) j)) (λ q. low.forces.is_open.1 (subst (λ z. In z t) (sym q) j)) (same_size l k e) in
    omega (arith, forced_few vars os more (h, over) (new, once))

pub opposite_size : (l : ℤ) → nat_abs (neg_ℤ l) ≡ nat_abs l
opposite_size (pos zero) = refl
opposite_size (pos (suc n)) = refl
opposite_size (negsuc n) = refl

pub opposite_sizes : (c : Clause) → map nat_abs (opposites c) ≡ map nat_abs c
opposite_sizes [] = refl
opposite_sizes (l ∷ c) = rw (opposite_size l, opposite_sizes c)

pub opposites_over : (vars : ℕ) (c : Clause) → Over vars c → Over vars (opposites c)
opposites_over vars [] h = tt
opposites_over vars (l ∷ c) h = ((omega (arith, h.0, opposite_size l), omega (arith, h.0, opposite_size l)), opposites_over vars c h.1)

count_few : (cs : List Clause) (vars : ℕ) → AllByRecursion (Over vars) cs → (c : Clause) → Over vars c → Once (map nat_abs c) → (n : ℕ) → Shown cs c n → length c + n ≤ vars
count_few cs vars os c over once n (e, leads, _) = omega (arith, length-map c neg_ℤ, forced_few vars os leads (opposites_over vars c over) (rw (opposite_sizes c) once))

-- the clauses that a call propagates over are over the variables
lemmas_over : (vars : ℕ) (ls : List ℤ) → Over vars ls → (rs : List Record) → AllByRecursion (Over vars) (map (lemma_at ls) rs)
lemmas_over vars ls h [] = tt
lemmas_over vars ls h (r ∷ rs) = (All-take (Of vars) r.length (drop r.place ls) (All-drop (Of vars) r.place ls h), lemmas_over vars ls h rs)

known_over : (cs : List Clause) (o : Refutation) (marks : List ℕ) → AsNoted cs o marks → AllByRecursion (Over o.noted.variables) (known cs o)
known_over cs o marks h = All-append (Over o.noted.variables) cs (lemmas_in o.memory) h.clauses_over (lemmas_over o.noted.variables o.memory.literals.items h.literals_over o.memory.records.items)

pub counts_within_variables_lem : CountsWithinVariables
counts_within_variables_lem =
    record {
      of_lemma = λ cs o after marks left c count h. let (noted, proper, _) = lemma_met cs o marks c count after left h in count_few (known cs o) o.noted.variables (known_over cs o marks noted) c proper.over proper.once count h.counts;
      of_conclude = λ cs o after marks left v h. omega (arith, count_few (known cs o) o.noted.variables (known_over cs o marks (conclude_met cs o marks v after left h)) [] tt tt v.count h.settles.counted);
    }

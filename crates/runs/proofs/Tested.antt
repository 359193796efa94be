-- Every test of a call is met or is not.
use Rattle.std.proofs.Common.{◌≡◌, ℕ, suc, ◌+◌, ◌≤◌, List, [], ◌∷◌, map, length, nat_abs, refl, ap, inl, inr, ⊎_elim, arith}
use native.Mathlib.Decide.{dec_le, dec_lt, ℕ_discrete}
use Rattle.std.specs.List.{AllByRecursion}
use Rattle.rules.specs.Lists.{In, Once}
use Rattle.rules.specs.Clauses.{Clause}
use Rattle.rules.specs.Propagation.{IsNotShown}
use Rattle.rules.proofs.Deciding.{shown_or_not_lem}
use Rattle.rules.proofs.Outcomes.{outcome_unique_lem}
use Rattle.runs.specs.declared.place.Record.{Record}
use Rattle.runs.specs.Memory.{Memory, EndToEnd}
use Rattle.runs.specs.Calls.{Refutation, Over, IsShown, CanBegin, AsNoted, Proper, RoomFor}

both? : {A B : Type 0} → Dec A → Dec B → Dec (A × B)
both? (yes a) (yes b) = yes (a, b)
both? (yes a) (no b) = no (λ r. b r.1)
both? (no a) d = no (λ r. a r.0)

like? : {A B : Type 0} → (A → B) → (B → A) → Dec A → Dec B
like? f g (yes a) = yes (f a)
like? f g (no a) = no (λ b. a (g b))

all? : {X : Type 0} (P : X → Type 0) → ((x : X) → Dec (P x)) → (xs : List X) → Dec (AllByRecursion P xs)
all? P P? [] = yes tt
all? P P? (x ∷ xs) = both? (P? x) (all? P P? xs)

in? : (n : ℕ) (ns : List ℕ) → Dec (In n ns)
in? n [] = no (λ m. m)
in? n (m ∷ ns) = go (ℕ_discrete n m) (in? n ns)
  where
    go : Dec (n ≡ m) → Dec (In n ns) → Dec (In n (m ∷ ns))
    go (yes e) r = yes (inl e)
    go (no e) (yes i) = yes (inr i)
    go (no e) (no i) = no (λ r. ⊎_elim e i r)

once? : (ns : List ℕ) → Dec (Once ns)
once? [] = yes tt
once? (n ∷ ns) = both? (go (in? n ns)) (once? ns)
  where
    go : Dec (In n ns) → Dec (In n ns → ⊥)
    go (yes i) = no (λ h. h i)
    go (no i) = yes i

none? : {X : Type 0} (xs : List X) → Dec (xs ≡ [])
none? [] = yes refl
none? (x ∷ xs) = no (λ e. let z : suc (length xs) ≡ 0 = ap length e in omega arith)

over? : (vars : ℕ) (c : Clause) → Dec (Over vars c)
over? vars c = all? (λ l. (1 ≤ nat_abs l) × (nat_abs l ≤ vars)) (λ l. both? (dec_le 1 (nat_abs l)) (dec_le (nat_abs l) vars)) c

end_to_end? : (from : ℕ) (rs : List Record) (to : ℕ) → Dec (EndToEnd from rs to)
end_to_end? from [] to = ℕ_discrete from to
end_to_end? from (r ∷ rs) to = both? (ℕ_discrete r.place from) (end_to_end? (from + r.length) rs to)

pub can_begin? : (cs : List Clause) (vars : ℕ) (marks : List ℕ) (m : Memory) → Dec (CanBegin cs vars marks m)
can_begin? cs vars marks m =
    like? (λ r. record { some_variable = r.0; not_too_many = r.1.0; a_mark_each = r.1.1.0; clauses_over = r.1.1.1.0; no_literals = r.1.1.1.1.0; no_records = r.1.1.1.1.1 }) (λ (r : CanBegin cs vars marks m). (r.some_variable, (r.not_too_many, (r.a_mark_each, (r.clauses_over, (r.no_literals, r.no_records))))))
    (both? (dec_le 1 vars) (both? (dec_le vars 999999) (both? (ℕ_discrete (length marks) vars) (both? (all? (Over vars) (over? vars) cs) (both? (none? m.literals.items) (none? m.records.items))))))

pub as_noted? : (cs : List Clause) (o : Refutation) (marks : List ℕ) → Dec (AsNoted cs o marks)
as_noted? cs o marks =
    let vars = o.noted.variables in
    let m = o.memory in
    like? (λ r. record { a_mark_each = r.0; clauses_noted = r.1.0; lemmas_noted = r.1.1.0; clauses_over = r.1.1.1.0; literals_over = r.1.1.1.1.0; end_to_end = r.1.1.1.1.1 }) (λ (r : AsNoted cs o marks). (r.a_mark_each, (r.clauses_noted, (r.lemmas_noted, (r.clauses_over, (r.literals_over, r.end_to_end))))))
    (both? (ℕ_discrete (length marks) vars) (both? (ℕ_discrete (length cs) o.noted.clauses) (both? (ℕ_discrete (length m.records.items) o.noted.lemmas) (both? (all? (Over vars) (over? vars) cs) (both? (over? vars m.literals.items) (end_to_end? 0 m.records.items (length m.literals.items)))))))

pub proper? : (vars : ℕ) (c : Clause) → Dec (Proper vars c)
proper? vars c =
    like? (λ r. record { some = r.0; short = r.1.0; once = r.1.1.0; over = r.1.1.1 }) (λ (r : Proper vars c). (r.some, (r.short, (r.once, r.over))))
    (both? (dec_le 1 (length c)) (both? (dec_le (length c) 130) (both? (once? (map nat_abs c)) (over? vars c))))

pub room_for? : (m : Memory) (c : Clause) → Dec (RoomFor m c)
room_for? m c = like? (λ r. record { its_literals = r.0; its_record = r.1 }) (λ (r : RoomFor m c). (r.its_literals, r.its_record)) (both? (dec_le (length m.literals.items + length c) m.literals.room) (dec_lt (length m.records.items) m.records.room))

pub is_shown? : (cs : List Clause) (c : Clause) → Dec (IsShown cs c)
is_shown? cs c = ⊎_elim (λ s. yes s) (λ (r : (n : ℕ) × IsNotShown cs c n). no (λ (s : IsShown cs c). (outcome_unique_lem cs c).never_both s.0 r.0 s.1 r.1)) (shown_or_not_lem cs c)

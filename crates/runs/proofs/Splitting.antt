-- Where clauses have no model, the lemmas that rule out all ways to set the variables, the longest first, are each shown.
use Rattle.std.proofs.Common.{◌≡◌, ℕ, zero, suc, ◌+◌, ◌-◌, ◌*◌, ◌^◌, ◌<◌, ◌≤◌, Bool, true, false, cond, not, ◌⊎◌, List, [], ◌∷◌, ◌++◌, map, length, get_or, ℤ, pos, negsuc, neg_ℤ, nat_abs, sym, refl, ap, ◌∙◌, subst, inl, inr, ⊎_elim, true≢false, append_assoc, append-nil, mul-suc, arith, length-append}
use mathlib.Core.Bool.{false≢true}
use native.Mathlib.Nat.{two-pow-succ}
use lib.IntN.{neg_ℤ-neg_ℤ}
use lib.ListN.{length-map}
use Rattle.std.specs.List.{AllByRecursion}
use Rattle.std.proofs.ByRecursion.{All-append, All-push, All-weaker}
use Rattle.std.proofs.lemmas.Bool.{cases_eq}
use Rattle.rules.specs.Lists.{In, Once, any}
use Rattle.rules.specs.Clauses.{Clause, says, Meets, Model, value, aye, nay, literals}
use Rattle.rules.specs.Propagation.{Trail, IsOpenOn, IsFalseOn, FalseClause, Conflict, PropagatesFreely, halt_freely, force_freely, opposites}
use Rattle.rules.proofs.Tests.{in_any, is_false}
use Rattle.rules.proofs.Members.{map_in, in_map, all_in, in_all, in_append_left, in_append_right}
use Rattle.rules.proofs.Deciding.{in?, conflict?}
use Rattle.rules.proofs.Confluence.{forced_in_any_order_lem}
use Rattle.runs.specs.Calls.{Over, IsShown, Proper}
use Rattle.runs.proofs.Bounding.{opposite_size, opposite_sizes, opposites_over}

-- no literal stands in a trail beside its opposite, if each variable stands there once
one_of_size : (t : Trail) → Once (map nat_abs t) → (l m : ℤ) → In l t → In m t → nat_abs l ≡ nat_abs m → l ≡ m
one_of_size [] o l m i j e = elim i [ ]
one_of_size (x ∷ t) o l m (inl p) (inl q) e = p ∙ sym q
one_of_size (x ∷ t) o l m (inl p) (inr j) e = absurd (o.0 (subst (λ n. In n (map nat_abs t)) (sym e ∙ ap nat_abs p) (in_map nat_abs t m j)))
one_of_size (x ∷ t) o l m (inr i) (inl q) e = absurd (o.0 (subst (λ n. In n (map nat_abs t)) (e ∙ ap nat_abs q) (in_map nat_abs t l i)))
one_of_size (x ∷ t) o l m (inr i) (inr j) e = one_of_size t o.1 l m i j e

own_opposite : (l : ℤ) → l ≡ neg_ℤ l → nat_abs l ≡ 0
own_opposite (pos zero) e = refl
own_opposite (pos (suc n)) e = let z : ◌≡◌ {A = ℕ} 0 1 = cc in absurd (omega arith)
own_opposite (negsuc n) e = let z : ◌≡◌ {A = ℕ} 0 1 = cc in absurd (omega arith)

not_both : (vars : ℕ) (t : Trail) → Over vars t → Once (map nat_abs t) → (l : ℤ) → In l t → In (neg_ℤ l) t → ⊥
not_both vars t over once l i j =
    let e = one_of_size t once l (neg_ℤ l) i j (sym (opposite_size l)) in
    omega (arith, own_opposite l e, all_in (λ l. (1 ≤ nat_abs l) × (nat_abs l ≤ vars)) t over l i)

-- where either way to set an open literal makes some clause false, one forced literal comes to a false clause
split_shown : (cs : List Clause) (c : Clause) (t : Trail) (x : ℤ) → opposites c ≡ t → ((l : ℤ) → In l t → In (neg_ℤ l) t → ⊥) → IsOpenOn t x → Conflict cs (x ∷ t) → Conflict cs (neg_ℤ x ∷ t) → IsShown cs c
split_shown cs c t x start clash «open» (d, m, b) other = (forced_in_any_order_lem cs c).some_order.1 (subst (λ u. (e : Trail) × PropagatesFreely cs u e × Conflict cs e) (sym start) (go (conflict? cs t) (in? (neg_ℤ x) d)))
  where
    -- the other literals of the clause are false already
    others : (l : ℤ) → In l d → (l ≡ neg_ℤ x → ⊥) → In (neg_ℤ l) t
    others l i ne = ⊎_elim (λ (q : neg_ℤ l ≡ x). absurd (ne (sym (neg_ℤ-neg_ℤ l) ∙ ap neg_ℤ q))) (λ k. k) (all_in (IsFalseOn (x ∷ t)) d b l i)

    none_true' : (l : ℤ) → In l d → In l t → ⊥
    none_true' l i j = ⊎_elim (λ (q : neg_ℤ l ≡ x). «open».1 (subst (λ z. In z t) (sym (neg_ℤ-neg_ℤ l) ∙ ap neg_ℤ q) j)) (λ k. clash l j k) (all_in (IsFalseOn (x ∷ t)) d b l i)

    go : Dec (Conflict cs t) → Dec (In (neg_ℤ x) d) → (e : Trail) × PropagatesFreely cs t e × Conflict cs e
    go (yes k) r = (t, halt_freely, k)
    go (no k) (no n) = absurd (k (d, m, in_all (IsFalseOn t) d (λ l i. others l i (λ q. n (subst (λ z. In z d) q i)))))
    go (no k) (yes n) = (
      neg_ℤ x ∷ t,
      force_freely d m (record {
        none_true = none_true';
        member = n;
        is_open = («open».1, λ q. «open».0 (subst (λ z. In z t) (neg_ℤ-neg_ℤ x) q));
        no_other = λ l i (p : IsOpenOn t l). pick l i p (in? (neg_ℤ l) t);
      }) halt_freely,
      other,
    )
      where
        pick : (l : ℤ) → In l d → IsOpenOn t l → Dec (In (neg_ℤ l) t) → l ≡ neg_ℤ x
        pick l i p (yes j) = absurd (p.1 j)
        pick l i p (no j) = ⊎_elim (λ (q : neg_ℤ l ≡ x). sym (neg_ℤ-neg_ℤ l) ∙ ap neg_ℤ q) (λ k. absurd (j k)) (all_in (IsFalseOn (x ∷ t)) d b l i)

-- the literals that set variables k, k + 1 and so on
abbrev lit : Bool → ℕ → ℤ
lit b v = cond b (aye v) (nay v)

abbrev lits : ℕ → List Bool → Trail
lits k [] = []
lits k (b ∷ bs) = lit b k ∷ lits (suc k) bs

lit_size : (b : Bool) (k : ℕ) → nat_abs (lit b k) ≡ k
lit_size true k = refl
lit_size false zero = refl
lit_size false (suc k) = refl

lits_length : (k : ℕ) (bs : List Bool) → length (lits k bs) ≡ length bs
lits_length k [] = refl
lits_length k (b ∷ bs) = ap suc (lits_length (suc k) bs)

abbrev From : ℕ → ℕ → ℤ → Type 0
From k n l = (k ≤ nat_abs l) × (nat_abs l < k + n)

lits_from : (k : ℕ) (bs : List Bool) → AllByRecursion (From k (length bs)) (lits k bs)
lits_from k [] = tt
lits_from k (b ∷ bs) = ((omega (arith, lit_size b k), omega (arith, lit_size b k)), All-weaker (From (suc k) (length bs)) (From k (suc (length bs))) (λ l h. (omega arith, omega arith)) (lits (suc k) bs) (lits_from (suc k) bs))

lits_once : (k : ℕ) (bs : List Bool) → Once (map nat_abs (lits k bs))
lits_once k [] = tt
lits_once k (b ∷ bs) = (λ m. let (l, i, e) = map_in nat_abs (lits (suc k) bs) (nat_abs (lit b k)) m in omega (arith, lit_size b k, all_in (From (suc k) (length bs)) (lits (suc k) bs) (lits_from (suc k) bs) l i), lits_once (suc k) bs)

lits_over : (vars k : ℕ) (bs : List Bool) → 1 ≤ k → k + length bs ≤ suc vars → Over vars (lits k bs)
lits_over vars k bs one fit = All-weaker (From k (length bs)) (λ l. (1 ≤ nat_abs l) × (nat_abs l ≤ vars)) (λ l h. (omega arith, omega arith)) (lits k bs) (lits_from k bs)

lits_above : (k : ℕ) (bs : List Bool) (l : ℤ) → nat_abs l < k → In l (lits k bs) → ⊥
lits_above k bs l h i = omega (arith, all_in (From k (length bs)) (lits k bs) (lits_from k bs) l i)

-- the lemma that rules them out
abbrev block : ℕ → List Bool → Clause
block k bs = opposites (lits k bs)

block_length : (k : ℕ) (bs : List Bool) → length (block k bs) ≡ length bs
block_length k bs = length-map (lits k bs) neg_ℤ ∙ lits_length k bs

block_proper : (vars k : ℕ) (bs : List Bool) → 1 ≤ k → 1 ≤ length bs → k + length bs ≤ suc vars → length bs ≤ 130 → Proper vars (block k bs)
block_proper vars k bs one some' fit short' =
    record {
      some = omega (arith, block_length k bs);
      short = omega (arith, block_length k bs);
      once = rw (opposite_sizes (lits k bs)) (lits_once k bs);
      over = opposites_over vars (lits k bs) (lits_over vars k bs one fit);
    }

twice_opposite : (t : Trail) → opposites (opposites t) ≡ t
twice_opposite [] = refl
twice_opposite (l ∷ t) = rw (neg_ℤ-neg_ℤ l, twice_opposite t)

block_false : (k : ℕ) (bs : List Bool) → FalseClause (lits k bs) (block k bs)
block_false k bs = in_all (IsFalseOn (lits k bs)) (block k bs) (λ l m. let (x, i, e) = map_in neg_ℤ (lits k bs) l m in subst (λ z. In z (lits k bs)) (sym (neg_ℤ-neg_ℤ x) ∙ ap neg_ℤ (sym e)) i)

-- where every variable is set and that is no model, some clause is false
lits_in : (k : ℕ) (bs : List Bool) (v : ℕ) → k ≤ v → v < k + length bs → In (lit (get_or bs (v - k) false) v) (lits k bs)
lits_in k [] v h i = absurd (omega arith)
lits_in k (b ∷ bs) v h i = go (λ n. lits_in (suc k) bs v (omega arith) (omega arith)) (cases_eq v k)
  where
    go : ((v ≡ k → ⊥) → In (lit (get_or bs (v - suc k) false) v) (lits (suc k) bs)) → (v ≡ k) ⊎ (v ≡ k → ⊥) → In (lit (get_or (b ∷ bs) (v - k) false) v) (lits k (b ∷ bs))
    go more (inl e) = let z : v - k ≡ 0 = omega arith in rw z (inl (ap (lit b) e))
    go more (inr n) = let z : v - k ≡ suc (v - suc k) = omega arith in inr (subst (λ m. In (lit (get_or (b ∷ bs) m false) v) (lits (suc k) bs)) (sym z) (more n))

false_in : (bs : List Bool) (l : ℤ) → 1 ≤ nat_abs l → nat_abs l ≤ length bs → says (value bs) l ≡ false → In (neg_ℤ l) (lits 1 bs)
false_in bs (pos v) h i e = subst (λ b. In (lit b v) (lits 1 bs)) e (lits_in 1 bs v h (omega arith))
false_in bs (negsuc v) h i e = subst (λ b. In (lit b (suc v)) (lits 1 bs)) (was_true (value bs (suc v)) e) (lits_in 1 bs (suc v) h (omega arith))
  where
    was_true : (b : Bool) → not b ≡ false → b ≡ true
    was_true true q = refl
    was_true false q = absurd (true≢false q)

whole_conflict : (cs : List Clause) (bs : List Bool) → AllByRecursion (Over (length bs)) cs → (Model (length bs) cs bs → ⊥) → Conflict cs (lits 1 bs)
whole_conflict cs bs over none = go (conflict? cs (lits 1 bs))
  where
    met : (Conflict cs (lits 1 bs) → ⊥) → (c : Clause) → In c cs → (b : Bool) → any (says (value bs)) c ≡ b → b ≡ true
    met no' c m true e = refl
    met no' c m false e = absurd (no' (c, m, in_all (IsFalseOn (lits 1 bs)) c (λ l i. let r = all_in (λ l. (1 ≤ nat_abs l) × (nat_abs l ≤ length bs)) c (all_in (Over (length bs)) cs over c m) l i in false_in bs l r.0 r.1 (is_false (says (value bs) l) (λ k. false≢true (sym e ∙ in_any (says (value bs)) c l i k))))))

    go : Dec (Conflict cs (lits 1 bs)) → Conflict cs (lits 1 bs)
    go (yes k) = k
    go (no k) = absurd (none (record { long = refl; meets = in_all (Meets (value bs)) cs (λ c m. met k c m (any (says (value bs)) c) refl) }))

-- the lemmas for all ways to set variables n to 1, where bs sets those above n: after both ways to set n, the lemma that rules out bs
abbrev branches : ℕ → List Bool → List Clause
branches zero bs = []
branches (suc n) bs = branches n (true ∷ bs) ++ (branches n (false ∷ bs) ++ block (suc (suc n)) bs ∷ [])

-- and for all n variables, where nothing is left to rule out
abbrev pub trunk : ℕ → List Clause
trunk zero = []
trunk (suc n) = branches n (true ∷ []) ++ branches n (false ∷ [])

-- lemmas that are each shown from those before them
abbrev pub InTurn : List Clause → List Clause → List Clause → Type 0
InTurn cs old [] = Unit {0}
InTurn cs old (c ∷ more) = IsShown (cs ++ old) c × InTurn cs (old ++ c ∷ []) more

turn_append : (cs old xs ys : List Clause) → InTurn cs old xs → InTurn cs (old ++ xs) ys → InTurn cs old (xs ++ ys)
turn_append cs old [] ys h k = rw (append-nil old) at k
turn_append cs old (x ∷ xs) ys h k = (h.0, turn_append cs (old ++ x ∷ []) xs ys h.1 (rw (append_assoc old (x ∷ []) xs) k))

module _ (cs : List Clause) (v : ℕ) (over : AllByRecursion (Over v) cs) (none : (bs : List Bool) → Model v cs bs → ⊥) where
  branch_conflict : (n : ℕ) (bs : List Bool) → n + length bs ≡ v → (ds : List Clause) → ((c : Clause) → In c cs → In c ds) → ((c : Clause) → In c (branches n bs) → In c ds) → Conflict ds (lits (suc n) bs)
  branch_conflict zero bs e ds sub sub' =
      let q : v ≡ length bs = omega arith in
      let (c, m, b) = whole_conflict cs bs (rw q at over) (λ h. none bs (rw (sym q) at h)) in
      (c, sub c m, b)
  branch_conflict (suc n) bs e ds sub sub' =
      let c = block (suc (suc n)) bs in
      (c, sub' c (in_append_right c (branches n (true ∷ bs)) (branches n (false ∷ bs) ++ c ∷ []) (in_append_right c (branches n (false ∷ bs)) (c ∷ []) (inl refl))), block_false (suc (suc n)) bs)

  -- what rules out bs is shown once both ways to set the next variable are ruled out
  node_shown : (n : ℕ) (bs : List Bool) → suc n + length bs ≡ v → (old : List Clause) → IsShown (cs ++ (old ++ branches n (true ∷ bs) ++ branches n (false ∷ bs))) (block (suc (suc n)) bs)
  node_shown n bs e old =
      let lower = branches n (true ∷ bs) in
      let upper = branches n (false ∷ bs) in
      let ds = cs ++ (old ++ lower ++ upper) in
      let t = lits (suc (suc n)) bs in
      let base : (c : Clause) → In c cs → In c ds = λ c m. in_append_left c cs (old ++ lower ++ upper) m in
      split_shown ds (block (suc (suc n)) bs) t (pos (suc n)) (twice_opposite t) (not_both v t (lits_over v (suc (suc n)) bs (omega arith) (omega arith)) (lits_once (suc (suc n)) bs))
      (lits_above (suc (suc n)) bs (pos (suc n)) (omega arith), lits_above (suc (suc n)) bs (negsuc n) (omega arith))
      (branch_conflict n (true ∷ bs) (omega arith) ds base (λ c m. in_append_right c cs (old ++ lower ++ upper) (in_append_left c (old ++ lower) upper (in_append_right c old lower m))))
      (branch_conflict n (false ∷ bs) (omega arith) ds base (λ c m. in_append_right c cs (old ++ lower ++ upper) (in_append_right c (old ++ lower) upper m)))

  branches_turn : (n : ℕ) (bs : List Bool) → n + length bs ≡ v → (old : List Clause) → InTurn cs old (branches n bs)
  branches_turn zero bs e old = tt
  branches_turn (suc n) bs e old =
      let lower = branches n (true ∷ bs) in
      let upper = branches n (false ∷ bs) in
      turn_append cs old lower (upper ++ block (suc (suc n)) bs ∷ []) (branches_turn n (true ∷ bs) (omega arith) old)
      (turn_append cs (old ++ lower) upper (block (suc (suc n)) bs ∷ []) (branches_turn n (false ∷ bs) (omega arith) (old ++ lower)) (node_shown n bs e old, tt))

-- how many there are, and how long
branches_length : (n : ℕ) (bs : List Bool) → suc (length (branches n bs)) ≡ 2 ^ n
branches_length zero bs = refl
branches_length (suc n) bs = rw (length-append (branches n (true ∷ bs)) (branches n (false ∷ bs) ++ block (suc (suc n)) bs ∷ []), length-append (branches n (false ∷ bs)) (block (suc (suc n)) bs ∷ [])) (omega (arith, branches_length n (true ∷ bs), branches_length n (false ∷ bs), two-pow-succ n))

abbrev Fitting : ℕ → ℕ → Clause → Type 0
Fitting vars v c = Proper vars c × (length c ≤ v)

branches_proper : (vars v n : ℕ) (bs : List Bool) → 1 ≤ length bs → n + length bs ≡ v → v ≤ vars → v ≤ 130 → AllByRecursion (Fitting vars v) (branches n bs)
branches_proper vars v zero bs some' e fit short' = tt
branches_proper vars v (suc n) bs some' e fit short' =
    All-append (Fitting vars v) (branches n (true ∷ bs)) (branches n (false ∷ bs) ++ block (suc (suc n)) bs ∷ []) (branches_proper vars v n (true ∷ bs) (omega arith) (omega arith) fit short')
    (All-push (Fitting vars v) (branches n (false ∷ bs)) (block (suc (suc n)) bs) (branches_proper vars v n (false ∷ bs) (omega arith) (omega arith) fit short')
    (block_proper vars (suc (suc n)) bs (omega arith) some' (omega arith) (omega arith), omega (arith, block_length (suc (suc n)) bs)))

literals_few : (v : ℕ) (cs : List Clause) → AllByRecursion (λ c. length c ≤ v) cs → literals cs ≤ v * length cs
literals_few v [] h = omega arith
literals_few v (c ∷ cs) h = rw (mul-suc v (length cs)) (omega (arith, literals_few v cs h.1, h.0))

-- lemmas that refute the clauses
pub record Refutes (cs : List Clause) (vars v : ℕ) (lemmas : List Clause) : Type 0 where
  pub proper : AllByRecursion (Proper vars) lemmas
  pub turn : InTurn cs [] lemmas
  pub ends : IsShown (cs ++ lemmas) []
  pub few : length lemmas ≤ 2 ^ v
  pub short : literals lemmas ≤ v * length lemmas

pub trunk_refutes : (cs : List Clause) (vars v : ℕ) → v ≤ 130 → v ≤ vars → AllByRecursion (Over v) cs → ((bs : List Bool) → Model v cs bs → ⊥) → Refutes cs vars v (trunk v)
trunk_refutes cs vars zero short' fit over none =
    record {
      proper = tt;
      turn = tt;
      ends = (forced_in_any_order_lem (cs ++ []) []).some_order.1 ([], halt_freely, branch_conflict cs 0 over none 0 [] refl (cs ++ []) (λ c m. in_append_left c cs [] m) (λ c m. elim m [ ]));
      few = omega arith;
      short = omega arith;
    }
trunk_refutes cs vars (suc n) short' fit over none =
    let lower = branches n (true ∷ []) in
    let upper = branches n (false ∷ []) in
    let fitting = All-append (Fitting vars (suc n)) lower upper (branches_proper vars (suc n) n (true ∷ []) (omega arith) (omega arith) fit short') (branches_proper vars (suc n) n (false ∷ []) (omega arith) (omega arith) fit short') in
    record {
      proper = All-weaker (Fitting vars (suc n)) (Proper vars) (λ c h. h.0) (lower ++ upper) fitting;
      turn = turn_append cs [] lower upper (branches_turn cs (suc n) over none n (true ∷ []) (omega arith) []) (branches_turn cs (suc n) over none n (false ∷ []) (omega arith) lower);
      ends = node_shown cs (suc n) over none n [] (omega arith) [];
      few = omega (arith, length-append lower upper, branches_length n (true ∷ []), branches_length n (false ∷ []), two-pow-succ n);
      short = literals_few (suc n) (lower ++ upper) (All-weaker (Fitting vars (suc n)) (λ c. length c ≤ suc n) (λ c h. h.1) (lower ++ upper) fitting);
    }

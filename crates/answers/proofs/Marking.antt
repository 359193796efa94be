-- Marks: what they say of the literals that were put.
use Rattle.std.proofs.Common.{◌≡◌, ℕ, ◌+◌, ◌-◌, ◌%◌, ◌^◌, ◌<◌, ◌≤◌, Bool, true, false, cond, ◌&&◌, ◌||◌, eqb, ltb, leb, List, [], ◌∷◌, map, length, get_or, set, replicate, ℤ, pos, negsuc, nat_abs, Some, None, Option, sym, refl, ap, ◌∙◌, subst, ⊎_elim, arith}
use Rattle.std.specs.List.{AllByRecursion}
use Rattle.std.proofs.lemmas.List.FromFn.{get_or-map-range_with_len, length-map-range_with_len}
use Rattle.std.proofs.ByRecursion.{All-weaker}
use Rattle.std.proofs.lemmas.List.{ext_get_or, get_or-map, length-map, length-set, length-replicate, get_or-replicate, get_or-set_same, get_or-set_other}
use Rattle.std.proofs.lemmas.Bool.{cond-true, cases_eq, eq-eqb, ne_eqb, eqb-true, lt-ltb, ltb-true, le-leb, leb-true, and_parts, and_from, or_left}
use Rattle.rules.specs.Lists.{In, Once, any}
use Rattle.rules.proofs.Members.{map_in, in_map, all_in, in_all}
use Rattle.answers.specs.declared.stage.Stage.TheVariants.{Before}
use Rattle.answers.specs.declared.status.Status.{Status}
use Rattle.answers.specs.Rendering.{s_line, Literal, Rendering}
use Rattle.answers.specs.Answered.{affirms, truth_value, truth_of}
use Rattle.answers.specs.Following.{bind, lines_of, follow, answer_of, mark_of, free, mark}
use Rattle.answers.proofs.Pieces.{never, some_inj, bind_some, lines_only, lines_back}
use Rattle.answers.proofs.Told.{puts, follow_read, follow_back}

abbrev place : ℤ → ℕ
place l = nat_abs l - 1

abbrev Unmarked : List ℕ → List ℤ → Type 0
Unmarked m ls = AllByRecursion (λ l. get_or m (place l) 0 ≡ 0) ls

free_parts : (m : List ℕ) (l : ℤ) → free m l ≡ true → (0 < nat_abs l) × (nat_abs l ≤ length m) × (get_or m (place l) 0 ≡ 0)
free_parts m l h =
    let p = and_parts (ltb 0 (nat_abs l) && leb (nat_abs l) (length m)) (eqb (get_or m (place l) 0) 0) h in
    let q = and_parts (ltb 0 (nat_abs l)) (leb (nat_abs l) (length m)) p.0 in
    (ltb-true 0 (nat_abs l) q.0, leb-true (nat_abs l) (length m) q.1, eqb-true (get_or m (place l) 0) 0 p.1)

pub parts_free : (m : List ℕ) (l : ℤ) → 0 < nat_abs l → nat_abs l ≤ length m → get_or m (place l) 0 ≡ 0 → free m l ≡ true
parts_free m l a b c = and_from _ _ (and_from _ _ (lt-ltb 0 (nat_abs l) a) (le-leb (nat_abs l) (length m) b)) (eq-eqb (get_or m (place l) 0) 0 c)

marked : (m : List ℕ) (l : ℤ) (t : Bool) (k : List ℕ) → cond t (Some (set m (place l) (mark_of l))) None ≡ Some k → (t ≡ true) × (set m (place l) (mark_of l) ≡ k)
marked m l true k h = (refl, some_inj _ k h)
marked m l false k h = never (cc)

mark_some : (l : ℤ) → mark_of l ≡ 0 → ⊥
mark_some (pos k) h = omega arith
mark_some (negsuc k) h = omega arith

pub no_zero : (m : List ℕ) → mark m (pos 0) ≡ None
no_zero m = refl

-- what the marks say of a variable after one more literal
told_more : (m : List ℕ) (l : ℤ) (b : Bool) (i : ℕ) → 0 < nat_abs l → nat_abs l ≤ length m → get_or m (place l) 0 ≡ 0 → cond b 1 (get_or (set m (place l) (mark_of l)) i 0 % 2) ≡ cond (affirms (i + 1) l || b) 1 (get_or m i 0 % 2)
told_more m l b i a c z = ⊎_elim
    (λ (e : i ≡ place l). same l b (ap (λ j. get_or (set m (place l) (mark_of l)) j 0) e ∙ get_or-set_same m (place l) (mark_of l) 0 (omega arith)) (ap (λ j. get_or m j 0) e ∙ z) a e)
    (λ (ne : i ≡ place l → ⊥). other l b (get_or-set_other m (place l) i (mark_of l) 0 ne) a ne)
    (cases_eq i (place l))
  where
    either : (b : Bool) → ◌≡◌ {A = ℕ} (cond b 1 1) 1
    either true = refl
    either false = refl

    same : (l : ℤ) (b : Bool) → {x : ℕ} → x ≡ mark_of l → get_or m i 0 ≡ 0 → 0 < nat_abs l → i ≡ place l → cond b 1 (x % 2) ≡ cond (affirms (i + 1) l || b) 1 (get_or m i 0 % 2)
    same (pos k) b {x} s z a e =
        let t : eqb (i + 1) k ≡ true = eq-eqb (i + 1) k (omega arith) in
        ap (λ y. cond b 1 (y % 2)) s ∙ either b ∙ sym (cond-true (eqb (i + 1) k || b) 1 (get_or m i 0 % 2) (or_left (eqb (i + 1) k) b t))
    same (negsuc k) b {x} s z a e = ap (λ y. cond b 1 (y % 2)) s ∙ ap (λ y. cond b 1 (y % 2)) (sym z)

    other : (l : ℤ) (b : Bool) → {x : ℕ} → x ≡ get_or m i 0 → 0 < nat_abs l → (i ≡ place l → ⊥) → cond b 1 (x % 2) ≡ cond (affirms (i + 1) l || b) 1 (get_or m i 0 % 2)
    other (pos k) b {x} s a ne =
        let f : eqb (i + 1) k ≡ false = ne_eqb (i + 1) k (λ e. ne (omega arith)) in
        ap (λ y. cond b 1 (y % 2)) s ∙ ap (λ t. cond (t || b) 1 (get_or m i 0 % 2)) (sym f)
    other (negsuc k) b {x} s a ne = ap (λ y. cond b 1 (y % 2)) s

pub record Marked (m : List ℕ) (ls : List ℤ) (k : List ℕ) : Type 0 where
  pub sizes : AllByRecursion (Literal (length m)) ls
  pub once : Once (map nat_abs ls)
  pub clear : Unmarked m ls
  pub long : length k ≡ length m
  pub told : (i : ℕ) → get_or k i 0 % 2 ≡ cond (any (affirms (i + 1)) ls) 1 (get_or m i 0 % 2)

-- after the first literal
marked_more : (m : List ℕ) (l : ℤ) (ls : List ℤ) (k : List ℕ) → free m l ≡ true → Marked (set m (place l) (mark_of l)) ls k → Marked m (l ∷ ls) k
marked_more m l ls k f r =
    let p = free_parts m l f in
    let next : List ℕ = set m (place l) (mark_of l) in
    let same : length next ≡ length m = length-set m (place l) (mark_of l) in
    let at : get_or next (place l) 0 ≡ mark_of l = get_or-set_same m (place l) (mark_of l) 0 (omega (arith, p.0, p.1)) in
    record {
      sizes = ((p.0, p.1), subst (λ n. AllByRecursion (Literal n) ls) same r.sizes);
      once = (λ i. let x = map_in nat_abs ls (nat_abs l) i in mark_some l (sym at ∙ ap (λ n. get_or next (n - 1) 0) x.2 ∙ all_in (λ y. get_or next (place y) 0 ≡ 0) ls r.clear x.0 x.1), r.once);
      clear = (p.2, All-weaker (λ y. get_or next (place y) 0 ≡ 0) (λ y. get_or m (place y) 0 ≡ 0) (λ y h. ⊎_elim (λ (e : place y ≡ place l). ap (λ j. get_or m j 0) e ∙ p.2) (λ ne. sym (get_or-set_other m (place l) (place y) (mark_of l) 0 ne) ∙ h) (cases_eq (place y) (place l))) ls r.clear);
      long = r.long ∙ same;
      told = λ i. r.told i ∙ told_more m l (any (affirms (i + 1)) ls) i p.0 p.1 p.2;
    }

pub marks_read : (m : List ℕ) (ls : List ℤ) (k : List ℕ) → puts mark m ls ≡ Some k → Marked m ls k
marks_read m [] k h = subst (Marked m []) (some_inj m k h) (record { sizes = tt; once = tt; clear = tt; long = refl; told = λ i. refl })
marks_read m (l ∷ ls) k h =
    let j = bind_some (mark m l) (λ x. puts mark x ls) k h in
    let p = marked m l (free m l) j.0 j.1 in
    marked_more m l ls k p.0 (subst (λ x. Marked x ls k) (sym p.1) (marks_read j.0 ls k j.2))

pub marks_back : (m : List ℕ) (ls : List ℤ) → AllByRecursion (Literal (length m)) ls → Once (map nat_abs ls) → Unmarked m ls → (k : List ℕ) × (puts mark m ls ≡ Some k)
marks_back m [] sizes once clear = (m, refl)
marks_back m (l ∷ ls) sizes once clear =
    let next : List ℕ = set m (place l) (mark_of l) in
    let same : length m ≡ length next = sym (length-set m (place l) (mark_of l)) in
    let apart : (y : ℤ) → In y ls → place y ≡ place l → ⊥ = λ y i e.
    let g = all_in (Literal (length m)) ls sizes.1 y i in
    let q : nat_abs y ≡ nat_abs l = omega (arith, sizes.0.0, g.0) in
    once.0 (subst (λ n. In n (map nat_abs ls)) q (in_map nat_abs ls y i)) in
    let rest = in_all (λ y. get_or next (place y) 0 ≡ 0) ls (λ y i. get_or-set_other m (place l) (place y) (mark_of l) 0 (apart y i) ∙ all_in (λ y. get_or m (place y) 0 ≡ 0) ls clear.1 y i) in
    let r = marks_back next ls (subst (λ n. AllByRecursion (Literal n) ls) same sizes.1) once.1 rest in
    let put : mark m l ≡ Some next = cond-true (free m l) (Some next) None (parts_free m l sizes.0.0 sizes.0.1 clear.0) in
    (r.0, ap (λ o. bind o (λ x. puts mark x ls)) put ∙ r.1)

-- all marks 0, and the marks made truth values

zeros_clear : (n : ℕ) (ls : List ℤ) → AllByRecursion (Literal n) ls → Unmarked (replicate n 0) ls
zeros_clear n ls h = All-weaker (Literal n) (λ y. get_or (replicate n 0) (place y) 0 ≡ 0) (λ y p. get_or-replicate n (place y) 0 0 (omega (arith, p.0, p.1))) ls h

pub settled_truth : (n : ℕ) (ls : List ℤ) (k : List ℕ) → Marked (replicate n 0) ls k → map (λ b. b % 2) k ≡ truth_of n ls
settled_truth n ls k r =
    let zeros : length (replicate {A = ℕ} n 0) ≡ n = length-replicate n 0 in
    let long : length k ≡ n = r.long ∙ zeros in
    let made = length-map-range_with_len (λ i. truth_value ls (i + 1)) 0 n in
    ext_get_or 0 (map (λ b. b % 2) k) (truth_of n ls) (length-map k (λ b. b % 2) ∙ long ∙ sym made) (λ i h.
    let l : i < length k = omega (arith, length-map k (λ b. b % 2)) in
    let z : get_or (replicate n 0) i 0 ≡ 0 = get_or-replicate n i 0 0 (omega arith) in
    get_or-map (λ b. b % 2) k i 0 0 l ∙ r.told i ∙ ap (λ x. cond (any (affirms (i + 1)) ls) 1 (x % 2)) z ∙ sym (get_or-map-range_with_len (λ j. truth_value ls (j + 1)) 0 n i i 0 (omega arith) (omega arith)))

-- texts

module _ (n : ℕ) (below : n < 2 ^ 64) (text : List ℕ) where
  pub renders : (status : Status) (k : List ℕ) → answer_of n mark (replicate n 0) text ≡ Some (status, k) → (ls : List ℤ) × Rendering n text status ls × (map (λ b. b % 2) k ≡ truth_of n ls)
  renders status k h =
      let lines = bind_some (lines_of text) (follow n mark Before (replicate n 0)) (status, k) h in
      let cut = lines_only text lines.0 lines.1 in
      let r = follow_read n below mark Before (replicate n 0) lines.0 (status, k) lines.2 in
      let t = r.2 in
      let made = marks_read (replicate n 0) t.literals k t.put in (
        t.literals,
        record {
          lines = lines.0;
          cut = cut.1;
          whole = cut.0;
          groups = t.groups;
          some = t.some;
          tells = r.1 ∙ ap (λ vs. s_line status ∷ vs) t.tells;
          closes = t.closes;
          sizes = subst (λ m. AllByRecursion (Literal m) t.literals) (length-replicate {A = ℕ} n 0) made.sizes;
          once = made.once;
        },
        settled_truth n t.literals k made,
      )

  pub follows : {M : Type 0} (take : M → ℤ → Option M) (none : (m : M) → take m (pos 0) ≡ None) (status : Status) (ls : List ℤ) (m k : M) → Rendering n text status ls → puts take m ls ≡ Some k → answer_of n take m text ≡ Some (status, k)
  follows take none status ls m k r h =
      ap (λ t. answer_of n take m t) r.whole
      ∙ ap (λ o. bind o (follow n take Before m)) (lines_back r.lines r.cut)
      ∙ follow_back n below take none status m k r.lines _ r.tells (record { groups = r.groups; literals = ls; some = r.some; tells = refl; closes = r.closes; sized = All-weaker (Literal n) (λ l. nat_abs l ≤ n) (λ l p. p.1) ls r.sizes; put = h })

  pub no_rendering : answer_of n mark (replicate n 0) text ≡ None → (status : Status) (ls : List ℤ) → Rendering n text status ls → ⊥
  no_rendering h status ls r =
      let same : length (replicate {A = ℕ} n 0) ≡ n = length-replicate n 0 in
      let k = marks_back (replicate n 0) ls (subst (λ m. AllByRecursion (Literal m) ls) (sym same) r.sizes) r.once (zeros_clear n ls r.sizes) in
      let q : ◌≡◌ {A = Option (Status × List ℕ)} (Some (status, k.0)) None = sym (follows mark no_zero status ls (replicate n 0) k.0 r k.1) ∙ h in
      never (cc)

-- Bytes are granted exactly where they are the rendering of a lawful listing, which is read back from them.
use Rattle.std.proofs.Common.{◌≡◌, ℕ, zero, suc, ◌+◌, ◌-◌, ◌*◌, ◌/◌, ◌%◌, ◌<◌, ◌≤◌, true, false, ◌⊎◌, ◌↔◌, List, [], ◌∷◌, ◌++◌, map, length, get_or, take, drop, sym, refl, ap, ◌∙◌, subst, inl, inr, ⊎_elim, arith}
use Rattle.std.specs.List.{range_with_len, AllByRecursion}
use Rattle.std.proofs.ByRecursion.{All-get_or, All-from_get_or}
use Rattle.std.proofs.lemmas.List.{get_or_append_left, get_or-append_right, get_or-map, length-append, length-map, length-drop, length-take-le, take-append-drop}
use Rattle.std.proofs.lemmas.Bool.{cond-true, eq-eqb, cases_eq, or_right}
use Rattle.std.proofs.lemmas.Bool.Decides.{nat_tests}
use Rattle.rules.specs.Lists.{In, any, has, each}
use Rattle.rules.proofs.Tests.{any_in, any_none, has_in}
use Rattle.rules.proofs.Members.{in_counting, kept_in, in_kept}
use Rattle.problem.specs.Bytes.{word, facts, steps, pairs, code, fact}
use Rattle.problem.specs.Listed.{has_pair, listed}
use Rattle.problem.specs.Verdict.{headed, known, below, rises, scan, clashes, verdict}
use Rattle.problem.specs.Rendering.{Pair, pair, needs_code, sets_code, clears_code, start_code, goals_code, KnownCode, Before, Rising, LawfulListing, two_bytes, rendering, Renders, GrantedIsRendering, ReadsTheListing}
use Rattle.problem.proofs.Scans.{among_decides}
use Rattle.problem.proofs.Lawful.{lawful_head, lawful_scan, scan_known, rising, never_both, Lt}

-- numbers in two bytes each are read back
word_skip : (x y : ℕ) (s : List ℕ) (n : ℕ) → word (x ∷ y ∷ s) (suc (suc n)) ≡ word s n
word_skip x y s n = let e : suc (suc n) + 1 ≡ suc (suc (n + 1)) = omega arith in ap (λ k. get_or s n 0 + 256 * get_or (x ∷ y ∷ s) k 0) e

word_each : (ws : List ℕ) (i : ℕ) → word (each two_bytes ws) (2 * i) ≡ get_or ws i 0
word_each [] i = refl
word_each (w ∷ ws) zero = omega arith
word_each (w ∷ ws) (suc i) =
    let e : 2 * suc i ≡ suc (suc (2 * i)) = omega arith in
    ap (word (each two_bytes (w ∷ ws))) e ∙ (word_skip (w % 256) (w / 256) (each two_bytes ws) (2 * i) ∙ word_each ws i)

length_each_two : (ws : List ℕ) → length (each two_bytes ws) ≡ 2 * length ws
length_each_two [] = refl
length_each_two (w ∷ ws) = let ih = length_each_two ws in omega arith

-- bytes of an even number are numbers in two bytes each
two_by_two : (n : ℕ) (s : List ℕ) → length s ≡ 2 * n → AllByRecursion (λ b. b < 256) s → (ws : List ℕ) × (length ws ≡ n) × (s ≡ each two_bytes ws)
two_by_two zero [] e h = ([], refl, refl)
two_by_two zero (x ∷ s) e h = absurd (omega arith)
two_by_two (suc n) [] e h = absurd (omega arith)
two_by_two (suc n) (x ∷ []) e h = absurd (omega arith)
two_by_two (suc n) (x ∷ y ∷ s) e h =
    let r = two_by_two n s (omega arith) h.1.1 in
    let small : x < 256 = h.0 in
    let low : x ≡ (x + 256 * y) % 256 = omega arith in
    let high : y ≡ (x + 256 * y) / 256 = omega arith in
    ((x + 256 * y) ∷ r.0, ap suc r.1, cc (low, high, r.2))

-- codes beside facts, as pairs
abbrev beside : List ℕ → List ℕ → List Pair
beside (c ∷ cs) (g ∷ gs) = pair c g ∷ beside cs gs
beside [] gs = []
beside (c ∷ cs) [] = []

beside_parts : (cs gs : List ℕ) → length cs ≡ length gs → (length (beside cs gs) ≡ length cs) × (map (λ (p : Pair). p.code) (beside cs gs) ≡ cs) × (map (λ (p : Pair). p.fact) (beside cs gs) ≡ gs)
beside_parts [] [] e = (refl, refl, refl)
beside_parts [] (g ∷ gs) e = absurd (omega arith)
beside_parts (c ∷ cs) [] e = absurd (omega arith)
beside_parts (c ∷ cs) (g ∷ gs) e = let r = beside_parts cs gs (omega arith) in (ap suc r.0, ap (λ xs. c ∷ xs) r.1, ap (λ xs. g ∷ xs) r.2)

-- bytes as long as their head says are the rendering of some pairs
rendering_of : (s : List ℕ) → AllByRecursion (λ b. b < 256) s → length s ≡ 6 + 4 * pairs s → (f : ℕ) × (a : ℕ) × (ps : List Pair) × (s ≡ rendering f a ps)
rendering_of s h long =
    let (ws, m, e) = two_by_two (3 + 2 * pairs s) s (omega arith) h in
    let third : pairs s ≡ get_or ws 2 0 = ap pairs e ∙ word_each ws 2 in
    go ws (pairs s) m third e
  where
    go : (ws : List ℕ) (n : ℕ) → length ws ≡ 3 + 2 * n → n ≡ get_or ws 2 0 → s ≡ each two_bytes ws → (f : ℕ) × (a : ℕ) × (ps : List Pair) × (s ≡ rendering f a ps)
    go [] n m z e = absurd (omega arith)
    go (f ∷ []) n m z e = absurd (omega arith)
    go (f ∷ a ∷ []) n m z e = absurd (omega arith)
    go (f ∷ a ∷ p ∷ rest) n m z e =
        let half : length (take n rest) ≡ n = length-take-le n rest (omega arith) in
        let other : length (drop n rest) ≡ n = length-drop n rest ∙ omega arith in
        let b = beside_parts (take n rest) (drop n rest) (half ∙ sym other) in
        let long : p ≡ length (beside (take n rest) (drop n rest)) = sym z ∙ (sym half ∙ sym b.0) in
        let body : rest ≡ map (λ (p : Pair). p.code) (beside (take n rest) (drop n rest)) ++ map (λ (p : Pair). p.fact) (beside (take n rest) (drop n rest)) = rw (b.1, b.2) (sym (take-append-drop n rest)) in
        (f, a, beside (take n rest) (drop n rest), e ∙ cc (long, body))

-- pairs by their places
abbrev at : List Pair → ℕ → Pair
at ps i = get_or ps i (pair 0 0)

pair_is : (p : Pair) (c g : ℕ) → p.code ≡ c → p.fact ≡ g → p ≡ pair c g
pair_is p c g x y = subst (λ d. p ≡ pair d g) x (subst (λ h. p ≡ pair p.code h) y refl)

in_at : (ps : List Pair) (i : ℕ) → i < length ps → In (at ps i) ps
in_at [] i h = absurd (omega arith)
in_at (p ∷ ps) zero h = inl refl
in_at (p ∷ ps) (suc i) h = inr (in_at ps i (omega arith))

at_in : (ps : List Pair) (p : Pair) → In p ps → (i : ℕ) × (i < length ps) × (p ≡ at ps i)
at_in [] p m = elim m [ ]
at_in (q ∷ ps) p (inl e) = (0, omega arith, e)
at_in (q ∷ ps) p (inr m) = let (i, h, e) = at_in ps p m in (suc i, omega arith, e)

rising_at : (ps : List Pair) → Rising ps → (i j : ℕ) → i < j → j < length ps → Before (at ps i) (at ps j)
rising_at [] r i j l h = absurd (omega arith)
rising_at (p ∷ ps) r i zero l h = absurd (omega arith)
rising_at (p ∷ ps) r zero (suc j) l h = All-get_or (Before p) ps j (pair 0 0) (omega arith) r.0
rising_at (p ∷ ps) r (suc i) (suc j) l h = rising_at ps r.1 i j (omega arith) (omega arith)

at_rising : (ps : List Pair) → ((i j : ℕ) → i < j → j < length ps → Before (at ps i) (at ps j)) → Rising ps
at_rising [] h = tt
at_rising (p ∷ ps) h = (All-from_get_or (Before p) ps (pair 0 0) (λ j l. h 0 (suc j) (omega arith) (omega arith)), at_rising ps (λ i j l m. h (suc i) (suc j) (omega arith) (omega arith)))

-- the codes that a verdict knows are the known codes
known_code : (a c : ℕ) → c ≤ 4 * a + 2 → (c ≡ 2 → ⊥) → (c % 4 ≡ 3 → ⊥) → KnownCode a c
known_code a c l m n =
    ⊎_elim (λ x. inl x)
    (λ (x : c ≡ 0 → ⊥). ⊎_elim (λ y. inr (inl y))
    (λ (y : c ≡ 1 → ⊥). inr (inr (record { step = c / 4; first = omega arith; last = omega arith; kind = kinds })))
    (cases_eq c 1))
    (cases_eq c 0)
  where
    kinds : (c ≡ needs_code (c / 4)) ⊎ ((c ≡ sets_code (c / 4)) ⊎ (c ≡ clears_code (c / 4)))
    kinds =
        ⊎_elim (λ (x : c % 4 ≡ 0). inl (omega arith))
        (λ (x : c % 4 ≡ 0 → ⊥). ⊎_elim (λ (y : c % 4 ≡ 1). inr (inl (omega arith))) (λ (y : c % 4 ≡ 1 → ⊥). inr (inr (omega arith))) (cases_eq (c % 4) 1))
        (cases_eq (c % 4) 0)

code_known : (a c : ℕ) → KnownCode a c → (c ≤ 4 * a + 2) × (c ≡ 2 → ⊥) × (c % 4 ≡ 3 → ⊥)
code_known a c (inl e) = (omega arith, λ x. omega arith, λ x. omega arith)
code_known a c (inr (inl e)) = (omega arith, λ x. omega arith, λ x. omega arith)
code_known a c (inr (inr t)) = (omega arith, λ x. omega arith, λ x. omega arith)

-- what stands where in a rendering
record Stands (s : List ℕ) (f a : ℕ) (ps : List Pair) : Type 0 where
  facts_is : facts s ≡ f
  steps_is : steps s ≡ a
  pairs_is : pairs s ≡ length ps
  long : length s ≡ 6 + 4 * length ps
  code_is : (i : ℕ) → i < length ps → code s i ≡ (at ps i).code
  fact_is : (i : ℕ) → i < length ps → fact s i ≡ (at ps i).fact

stands : (f a : ℕ) (ps : List Pair) → Stands (rendering f a ps) f a ps
stands f a ps =
    let cs = map (λ (p : Pair). p.code) ps in
    let gs = map (λ (p : Pair). p.fact) ps in
    let ws = f ∷ a ∷ length ps ∷ (cs ++ gs) in
    let m : length cs ≡ length ps = length-map ps (λ (p : Pair). p.code) in
    let n : length gs ≡ length ps = length-map ps (λ (p : Pair). p.fact) in
    let third : pairs (rendering f a ps) ≡ length ps = word_each ws 2 in
    record {
      facts_is = word_each ws 0;
      steps_is = word_each ws 1;
      pairs_is = third;
      long = length_each_two ws ∙ omega (arith, length-append cs gs);
      code_is = λ i h.
          let e : 6 + 2 * i ≡ 2 * suc (suc (suc i)) = omega arith in
          let k : i < length cs = omega arith in
          ap (word (rendering f a ps)) e ∙ (word_each ws (suc (suc (suc i))) ∙ (get_or_append_left cs gs 0 i k ∙ get_or-map (λ (p : Pair). p.code) ps i (pair 0 0) 0 h));
      fact_is = λ i h.
          let e : 6 + 2 * pairs (rendering f a ps) + 2 * i ≡ 2 * suc (suc (suc (length ps + i))) = omega arith in
          let k : length ps + i - length ps ≡ i = omega arith in
          ap (word (rendering f a ps)) e ∙ (word_each ws (suc (suc (suc (length ps + i)))) ∙ (get_or-append_right cs gs (length ps) (length ps + i) 0 m (omega arith) ∙ (ap (λ j. get_or gs j 0) k ∙ get_or-map (λ (p : Pair). p.fact) ps i (pair 0 0) 0 h)));
    }

module _ (s : List ℕ) (f a : ℕ) (ps : List Pair) (st : Stands s f a ps) where
  listed_in : (c g : ℕ) → has_pair s c g ≡ true → In (pair c g) ps
  listed_in c g e =
      let (k, h, (x, y)) = (among_decides s c g (pairs s)).0 e in
      let l : k < length ps = subst (λ n. k < n) st.pairs_is h in
      let same : at ps k ≡ pair c g = pair_is (at ps k) c g (sym (st.code_is k l) ∙ x) (sym (st.fact_is k l) ∙ y) in
      subst (λ p. In p ps) same (in_at ps k l)

  in_listed : (c g : ℕ) → In (pair c g) ps → has_pair s c g ≡ true
  in_listed c g m =
      let (k, l, e) = at_in ps (pair c g) m in
      (among_decides s c g (pairs s)).1 (k, subst (λ n. k < n) (sym st.pairs_is) l, (st.code_is k l ∙ ap (λ (p : Pair). p.code) (sym e), st.fact_is k l ∙ ap (λ (p : Pair). p.fact) (sym e)))

  facts_listed : (c g : ℕ) → ((p : Pair) → In p ps → (1 ≤ p.fact) × (p.fact ≤ f)) → In g (listed s c) ↔ In (pair c g) ps
  facts_listed c g range = (
    λ m. listed_in c g (kept_in (has_pair s c) (range_with_len 1 (facts s)) g m).1,
    λ m. let r = range (pair c g) m in
        let k : g < 1 + facts s = omega (arith, st.facts_is) in
        in_kept (has_pair s c) (range_with_len 1 (facts s)) g (in_counting 1 (facts s) g r.0 k) (in_listed c g m),
  )

  -- of granted bytes
  module _ (z : verdict s ≡ 0) where
    known_at : (k : ℕ) → k < length ps → ((at ps k).code ≤ 4 * a + 2) × (1 ≤ (at ps k).fact) × ((at ps k).fact ≤ f) × ((at ps k).code ≡ 2 → ⊥) × ((at ps k).code % 4 ≡ 3 → ⊥)
    known_at k l =
        let h : k < pairs s = subst (λ n. k < n) (sym st.pairs_is) l in
        let r = scan_known s (pairs s) k (lawful_scan s z) h in
        let x = st.code_is k l in
        let y = st.fact_is k l in
        let u = st.facts_is in
        let v = st.steps_is in
        (omega arith, omega arith, omega arith, λ e. r.3 (x ∙ e), λ e. r.4 (ap (λ c. c % 4) x ∙ e))

    rises_at : (i j : ℕ) → i < j → j < length ps → Before (at ps i) (at ps j)
    rises_at i j l m =
        let k : i < length ps = omega arith in
        let h : j < pairs s = subst (λ n. j < n) (sym st.pairs_is) m in
        moved (st.code_is i k) (st.fact_is i k) (st.code_is j m) (st.fact_is j m) (rising s (pairs s) i j (lawful_scan s z) l h)
      where
        moved : {c d e g : ℕ} {p q : Pair} → c ≡ p.code → d ≡ p.fact → e ≡ q.code → g ≡ q.fact → Lt c d e g → Before p q
        moved x y u v (inl b) = inl (omega arith)
        moved x y u v (inr b) = inr (omega arith, omega arith)

    facts_known : (p : Pair) → In p ps → (1 ≤ p.fact) × (p.fact ≤ f)
    facts_known p m = let (k, l, e) = at_in ps p m in subst (λ (q : Pair). (1 ≤ q.fact) × (q.fact ≤ f)) (sym e) (let r = known_at k l in (r.1, r.2))

    listing : LawfulListing f a ps
    listing =
        let w = lawful_head s z in
        let x = st.facts_is in
        let y = st.steps_is in
        let u = st.pairs_is in
        record {
          some_fact = omega arith;
          few_facts = omega arith;
          few_steps = omega arith;
          few_pairs = omega arith;
          known_codes = λ p m. let (k, l, e) = at_in ps p m in subst (λ (q : Pair). KnownCode a q.code) (sym e) (let r = known_at k l in known_code a (at ps k).code r.0 r.3 r.4);
          known_facts = facts_known;
          rises = at_rising ps rises_at;
          never_both = λ b g m n. never_both s b g z ((facts_listed (sets_code b) g facts_known).1 m) ((facts_listed (clears_code b) g facts_known).1 n);
        }

  -- of a lawful listing
  module _ (w : LawfulListing f a ps) where
    head_passes : headed s ≡ true
    head_passes =
        let x = st.facts_is in
        let y = st.steps_is in
        let u = st.pairs_is in
        let o = w.some_fact in
        let p = w.few_facts in
        let q = w.few_steps in
        let r = w.few_pairs in
        grind (arith, nat_tests)

    known_passes : (k : ℕ) → k < length ps → known s k ≡ true
    known_passes k l =
        let x = st.code_is k l in
        let y = st.fact_is k l in
        let u = st.facts_is in
        let v = st.steps_is in
        let c = code_known a (at ps k).code (w.known_codes (at ps k) (in_at ps k l)) in
        let g = w.known_facts (at ps k) (in_at ps k l) in
        grind (arith, nat_tests)

    rise_passes : (k : ℕ) → k < length ps → rises s k ≡ true
    rise_passes zero l = refl
    rise_passes (suc k) l =
        let back : k ≡ suc k - 1 = omega arith in
        let h : k < length ps = omega arith in
        or_right _ _
        (subst (λ j. below (code s j) (fact s j) (code s (suc k)) (fact s (suc k)) ≡ true) back
        (moved (st.code_is k h) (st.fact_is k h) (st.code_is (suc k) l) (st.fact_is (suc k) l) (rising_at ps w.rises k (suc k) (omega arith) l)))
      where
        moved : {c d e g : ℕ} {p q : Pair} → c ≡ p.code → d ≡ p.fact → e ≡ q.code → g ≡ q.fact → Before p q → below c d e g ≡ true
        moved x y u v b = grind (arith, nat_tests)

    scan_passes : (n : ℕ) → n ≤ length ps → scan s n ≡ 0
    scan_passes zero l = refl
    scan_passes (suc n) l =
        let h : n < length ps = omega arith in
        cond-true _ _ _ (eq-eqb _ _ (scan_passes n (omega arith))) ∙ (cond-true _ _ _ (known_passes n h) ∙ cond-true _ _ _ (rise_passes n h))

    none_clashes : any (clashes s) (range_with_len 1 (steps s)) ≡ false
    none_clashes =
        any_none (clashes s) (range_with_len 1 (steps s))
        (λ b m e.
        let (g, k, t) = any_in (λ x. has x (listed s (4 * b + 2))) (listed s (4 * b + 1)) e in
        w.never_both b g ((facts_listed (sets_code b) g w.known_facts).0 k) ((facts_listed (clears_code b) g w.known_facts).0 (has_in g _ t)))

    granted : verdict s ≡ 0
    granted =
        let u = st.pairs_is in
        let x = st.long in
        let whole : scan s (pairs s) ≡ 0 = scan_passes (pairs s) (omega arith) in
        let head = head_passes in
        let apart = none_clashes in
        grind (arith, nat_tests)

pub granted_is_rendering_lem : GrantedIsRendering
granted_is_rendering_lem s h = (
  λ z.
      let (f, a, ps, e) = rendering_of s h (lawful_head s z).4 in
      let st : Stands s f a ps = subst (λ t. Stands t f a ps) (sym e) (stands f a ps) in
      record { facts = f; steps = a; pairs = ps; lawful = listing s f a ps st z; is = e },
  λ (r : Renders s).
      let st : Stands s r.facts r.steps r.pairs = subst (λ t. Stands t r.facts r.steps r.pairs) (sym r.is) (stands r.facts r.steps r.pairs) in
      granted s r.facts r.steps r.pairs st r.lawful,
)

pub reads_the_listing_lem : ReadsTheListing
reads_the_listing_lem f a ps l =
    let st = stands f a ps in
    let range = l.known_facts in
    record {
      facts_read = st.facts_is;
      steps_read = st.steps_is;
      pairs_read = λ c g. (listed_in _ f a ps st c g, in_listed _ f a ps st c g);
      start_read = λ g. facts_listed _ f a ps st start_code g range;
      goals_read = λ g. facts_listed _ f a ps st goals_code g range;
      needs_read = λ b g. facts_listed _ f a ps st (needs_code b) g range;
      sets_read = λ b g. facts_listed _ f a ps st (sets_code b) g range;
      clears_read = λ b g. facts_listed _ f a ps st (clears_code b) g range;
    }

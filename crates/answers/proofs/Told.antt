-- A text is followed to its end exactly where it is written as an answer is.
use Rattle.std.proofs.Common.{◌≡◌, ℕ, ◌^◌, ◌<◌, ◌≤◌, Bool, true, false, cond, not, ◌&&◌, eqb, List, [], ◌∷◌, ◌++◌, map, length, ℤ, pos, nat_abs, Some, None, Option, sym, refl, ap, ◌∙◌, subst, ⊎_elim, arith}
use Rattle.std.specs.Fmt.{signed_decimal}
use Rattle.std.specs.List.{AllByRecursion}
use Rattle.std.specs.Str.{bytes_eq}
use Rattle.std.proofs.lemmas.Fmt.{decimal_digit}
use Rattle.std.proofs.ByRecursion.{All-append}
use Rattle.std.proofs.lemmas.Slice.Eq.{bytes_eq-Decides}
use Rattle.std.proofs.lemmas.List.{append_assoc, append-nil}
use Rattle.std.proofs.lemmas.Bool.{cond-true, cond-false, cases_Bool, eqb-true, and_parts}
use Rattle.rules.specs.Lists.{each}
use Rattle.rules.proofs.Members.{all_left, all_right}
use Rattle.lines.specs.Numbers.{number_of}
use Rattle.lines.proofs.Numerals.{back, only}
use Rattle.answers.specs.declared.stage.Kind.{Kind}
use Rattle.answers.specs.declared.stage.Kind.TheVariants.{Comment, Claim, Values, Other}
use Rattle.answers.specs.declared.stage.Stage.{Stage}
use Rattle.answers.specs.declared.stage.Stage.TheVariants.{Before, Among, Past}
use Rattle.answers.specs.declared.status.Status.{Status}
use Rattle.answers.specs.declared.status.Status.TheVariants.{Satisfiable, Unsatisfiable, Unknown}
use Rattle.answers.specs.Rendering.{s_line, v_line, comment, telling, Closes}
use Rattle.answers.specs.Following.{bind, first_word, later_words, kind_of, claim_of, opened, opening, still_among, take_word, last_word, take_words, take_values, move, step, follow}
use Rattle.answers.proofs.Pieces.{never, some_inj, bind_some, spaced, one_word, word_cut, words_join, number_spaceless}

-- kinds

abbrev is_comment : Kind → Bool
is_comment Comment = true
is_comment Claim = false
is_comment Values = false
is_comment Other = false

by_tests : (t u v : Bool) → is_comment (cond t Comment (cond u Claim (cond v Values Other))) ≡ t
by_tests true u v = refl
by_tests false true v = refl
by_tests false false true = refl
by_tests false false false = refl

comment_kind : (l : List ℕ) → is_comment (kind_of l) ≡ comment l
comment_kind [] = refl
comment_kind (b ∷ bs) = by_tests (eqb b 99) (eqb b 115) (eqb b 118)

kind_comment : (l : List ℕ) → comment l ≡ true → kind_of l ≡ Comment
kind_comment [] h = never (cc)
kind_comment (b ∷ bs) h = cond-true (eqb b 99) Comment (cond (eqb b 115) Claim (cond (eqb b 118) Values Other)) h

telling_comment : (l : List ℕ) (ls : List (List ℕ)) → comment l ≡ true → telling (l ∷ ls) ≡ telling ls
telling_comment l ls h = cond-false (not (comment l)) (l ∷ telling ls) (telling ls) (ap not h)

telling_line : (l : List ℕ) (ls : List (List ℕ)) → comment l ≡ false → telling (l ∷ ls) ≡ l ∷ telling ls
telling_line l ls h = cond-true (not (comment l)) (l ∷ telling ls) (telling ls) (ap not h)

same_is : (xs ys : List ℕ) → bytes_eq xs ys ≡ true → xs ≡ ys
same_is xs ys h = (bytes_eq-Decides xs ys).0 h

-- s lines

claimed : (t u v : Bool) (l : List ℕ) (s : Status) → (t ≡ true → l ≡ s_line Satisfiable) → (u ≡ true → l ≡ s_line Unsatisfiable) → (v ≡ true → l ≡ s_line Unknown) → cond t (Some Satisfiable) (cond u (Some Unsatisfiable) (cond v (Some Unknown) None)) ≡ Some s → l ≡ s_line s
claimed true u v l s f g h q = f refl ∙ ap s_line (some_inj Satisfiable s q)
claimed false true v l s f g h q = g refl ∙ ap s_line (some_inj Unsatisfiable s q)
claimed false false true l s f g h q = h refl ∙ ap s_line (some_inj Unknown s q)
claimed false false false l s f g h q = never (cc)

claim_only : (l : List ℕ) (s : Status) → claim_of l ≡ Some s → l ≡ s_line s
claim_only l s h = claimed (bytes_eq l (s_line Satisfiable)) (bytes_eq l (s_line Unsatisfiable)) (bytes_eq l (s_line Unknown)) l s (same_is l _) (same_is l _) (same_is l _) h

-- lists

spaced_signed : (ns : List ℤ) → spaced (map signed_decimal ns) ≡ each (λ k. 32 ∷ signed_decimal k) ns
spaced_signed [] = refl
spaced_signed (k ∷ ns) = ap (λ x. 32 ∷ (signed_decimal k ++ x)) (spaced_signed ns)

full : {X : Type 0} (g : List X) (y : X) (ys : List X) → g ++ (y ∷ ys) ≡ [] → ◌≡◌ {A = ℕ} 0 1
full [] y ys q = cc
full (x ∷ g) y ys q = cc

-- the end of a list that ends in z, where its first part is g
parted : {X : Type 0} (g f new : List X) (z y : X) (ys : List X) → f ≡ y ∷ ys → g ++ f ≡ new ++ (z ∷ []) → (rest : List X) × (new ≡ g ++ rest) × (f ≡ rest ++ (z ∷ []))
parted [] f new z y ys e h = (new, refl, h)
parted (x ∷ g) f [] z y ys e h =
    let q : g ++ f ≡ [] = cc in
    never (full g y ys (ap (λ w. g ++ w) (sym e) ∙ q))
parted (x ∷ g) f (w ∷ new) z y ys e h =
    let q : x ≡ w = cc in
    let t : g ++ f ≡ new ++ (z ∷ []) = cc in
    let r = parted g f new z y ys e t in
    (r.0, ap (λ u. u ∷ new) (sym q) ∙ ap (λ u. x ∷ u) r.1, r.2)

zero_word : signed_decimal (pos 0) ≡ 48 ∷ []
zero_word = decimal_digit 0 (omega arith)

abbrev pub Sized : ℕ → List ℤ → Type 0
Sized n ls = AllByRecursion (λ l. nat_abs l ≤ n) ls

-- literals put one after another
abbrev pub puts : {M : Type 0} → (M → ℤ → Option M) → M → List ℤ → Option M
puts take m [] = Some m
puts take m (l ∷ ls) = bind (take m l) (λ k. puts take k ls)

puts_append : {M : Type 0} (take : M → ℤ → Option M) (m k : M) (ls ms : List ℤ) → puts take m (ls ++ ms) ≡ Some k → (j : M) × (puts take m ls ≡ Some j) × (puts take j ms ≡ Some k)
puts_append take m k [] ms h = (m, refl, h)
puts_append take m k (l ∷ ls) ms h =
    let i = bind_some (take m l) (λ x. puts take x (ls ++ ms)) k h in
    let r = puts_append take i.0 k ls ms i.2 in
    (r.0, ap (λ o. bind o (λ x. puts take x ls)) i.1 ∙ r.1, r.2)

append_puts : {M : Type 0} (take : M → ℤ → Option M) (m j k : M) (ls ms : List ℤ) → puts take m ls ≡ Some j → puts take j ms ≡ Some k → puts take m (ls ++ ms) ≡ Some k
append_puts take m j k [] ms h q = ap (λ x. puts take x ms) (some_inj m j h) ∙ q
append_puts take m j k (l ∷ ls) ms h q =
    let i = bind_some (take m l) (λ x. puts take x ls) j h in
    ap (λ o. bind o (λ x. puts take x (ls ++ ms))) i.1 ∙ append_puts take i.0 j k ls ms i.2 q

-- v lines that tell literals, which lead from m to k
pub record Telling {M : Type 0} (n : ℕ) (take : M → ℤ → Option M) (m : M) (s : Status) (lines : List (List ℕ)) (k : M) : Type 0 where
  pub groups : List (List ℤ)
  pub literals : List ℤ
  pub some : AllByRecursion (λ ns. 0 < length ns) groups
  pub tells : lines ≡ map v_line groups
  pub closes : Closes s groups literals
  pub sized : Sized n literals
  pub put : puts take m literals ≡ Some k

module _ {M : Type 0} (n : ℕ) (below : n < 2 ^ 64) (take : M → ℤ → Option M) where
  -- what the words of a line do, by the stage that they lead to
  abbrev Ends : M → List ℤ → Stage → M → Type 0
  Ends m ns Before k = ⊥
  Ends m ns Among k = puts take m ns ≡ Some k
  Ends m ns (Past s) k = (s ≡ Satisfiable) × ((new : List ℤ) × (ns ≡ new ++ (pos 0 ∷ [])) × (puts take m new ≡ Some k))

  abbrev WordsSay : M → List (List ℕ) → Stage × M → Type 0
  WordsSay m ws p = (ns : List ℤ) × (ws ≡ map signed_decimal ns) × Sized n ns × Ends m ns p.0 p.1

  word_read : (m k : M) (w : List ℕ) → take_word n take m w ≡ Some k → (l : ℤ) × (w ≡ signed_decimal l) × (nat_abs l ≤ n) × (take m l ≡ Some k)
  word_read m k w h =
      let r = bind_some (number_of n w) (take m) k h in
      let o = only n w r.0 below r.1 in
      (r.0, o.0, o.1, r.2)

  ends_more : (m j k : M) (l : ℤ) (ns : List ℤ) (at : Stage) → take m l ≡ Some j → Ends j ns at k → Ends m (l ∷ ns) at k
  ends_more m j k l ns Before t h = h
  ends_more m j k l ns Among t h = ap (λ o. bind o (λ x. puts take x ns)) t ∙ h
  ends_more m j k l ns (Past s) t h = (h.0, (l ∷ h.1.0, ap (λ x. l ∷ x) h.1.1, ap (λ o. bind o (λ x. puts take x h.1.0)) t ∙ h.1.2))

  last_read : (m : M) (w : List ℕ) (t : Bool) (p : Stage × M) → (t ≡ true → w ≡ 48 ∷ []) → cond t (Some (Past Satisfiable, m)) (still_among (take_word n take m w)) ≡ Some p → WordsSay m (w ∷ []) p
  last_read m w true p e h = subst (WordsSay m (w ∷ [])) (some_inj (Past Satisfiable, m) p h) (pos 0 ∷ [], ap (λ x. x ∷ []) (e refl ∙ sym zero_word), (omega arith, tt), (refl, ([], refl, refl)))
  last_read m w false p e h = go (take_word n take m w) refl h
    where
      go : (o : Option M) → take_word n take m w ≡ o → still_among o ≡ Some p → WordsSay m (w ∷ []) p
      go None q u = never (cc)
      go (Some k) q u =
          let r = word_read m k w q in
          let done : puts take m (r.0 ∷ []) ≡ Some k = ap (λ o. bind o (λ x. puts take x [])) r.3 in
          subst (WordsSay m (w ∷ [])) (some_inj (Among, k) p u) (r.0 ∷ [], ap (λ x. x ∷ []) r.1, (r.2, tt), done)

  words_read : (m : M) (w : List ℕ) (ws : List (List ℕ)) (p : Stage × M) → take_words n take m w ws ≡ Some p → WordsSay m (w ∷ ws) p
  words_read m w [] p h = last_read m w (bytes_eq w (48 ∷ [])) p (same_is w (48 ∷ [])) h
  words_read m w (v ∷ ws) p h =
      let j = bind_some (take_word n take m w) (λ x. take_words n take x v ws) p h in
      let r = word_read m j.0 w j.1 in
      let more = words_read j.0 v ws p j.2 in
      (r.0 ∷ more.0, ap (λ x. x ∷ (v ∷ ws)) r.1 ∙ ap (λ x. signed_decimal r.0 ∷ x) more.1, (r.2, more.2), ends_more m j.0 p.1 r.0 more.0 p.0 r.3 more.3)

  -- a v line, read
  values_read : (m : M) (l : List ℕ) (p : Stage × M) → take_values n take m l ≡ Some p → (ns : List ℤ) × (l ≡ v_line ns) × (0 < length ns) × Sized n ns × Ends m ns p.0 p.1
  values_read m [] p h = never (cc)
  values_read m (b ∷ []) p h = never (cc)
  values_read m (b ∷ c ∷ bs) p h = go (eqb b 118 && eqb c 32) refl h
    where
      some : (w : List ℕ) (ws : List (List ℕ)) (ns : List ℤ) → w ∷ ws ≡ map signed_decimal ns → 0 < length ns
      some w ws [] q = never (cc)
      some w ws (k ∷ ns) q = omega arith

      go : (t : Bool) → (eqb b 118 && eqb c 32) ≡ t → cond t (take_words n take m (first_word bs) (later_words bs)) None ≡ Some p → (ns : List ℤ) × (b ∷ c ∷ bs ≡ v_line ns) × (0 < length ns) × Sized n ns × Ends m ns p.0 p.1
      go true e q =
          let u = and_parts (eqb b 118) (eqb c 32) e in
          let r = words_read m (first_word bs) (later_words bs) p q in (
            r.0,
            ap (λ x. x ∷ (c ∷ bs)) (eqb-true b 118 u.0) ∙ ap (λ x. 118 ∷ (x ∷ bs)) (eqb-true c 32 u.1) ∙ ap (λ x. 118 ∷ (32 ∷ x)) (words_join bs) ∙ ap (λ ws. 118 ∷ spaced ws) r.1 ∙ ap (λ x. 118 ∷ x) (spaced_signed r.0),
            some (first_word bs) (later_words bs) r.0 r.1,
            r.2,
            r.3,
          )
      go false e q = never (cc)

  -- what the rest of the lines says at a stage; comments are left out
  abbrev Rest : Stage → M → List (List ℕ) → Status × M → Type 0
  Rest Before m lines q = (vs : List (List ℕ)) × (lines ≡ s_line q.0 ∷ vs) × Telling n take m q.0 vs q.1
  Rest Among m lines q = (q.0 ≡ Satisfiable) × Telling n take m Satisfiable lines q.1
  Rest (Past s) m lines q = (lines ≡ []) × (q ≡ (s, m))

  values_rest : (m k : M) (l : List ℕ) (lines : List (List ℕ)) (at : Stage) (q : Status × M) (ns : List ℤ) → l ≡ v_line ns → 0 < length ns → Sized n ns → Ends m ns at k → Rest at k lines q → Rest Among m (l ∷ lines) q
  values_rest m k l lines Before q ns is some sized h r = elim h [ ]
  values_rest m k l lines Among q ns is some sized h r =
      let t = r.1 in (
        r.0,
        record {
          groups = ns ∷ t.groups;
          literals = ns ++ t.literals;
          some = (some, t.some);
          tells = ap (λ x. x ∷ lines) is ∙ ap (λ x. v_line ns ∷ x) t.tells;
          closes = ap (λ x. ns ++ x) t.closes ∙ sym (append_assoc ns t.literals (pos 0 ∷ []));
          sized = All-append (λ x. nat_abs x ≤ n) ns t.literals sized t.sized;
          put = append_puts take m k q.1 ns t.literals h t.put;
        },
      )
  values_rest m k l lines (Past s) q ns is some sized h r =
      let new = h.1.0 in (
        ap (λ x. x.0) r.1 ∙ h.0,
        record {
          groups = ns ∷ [];
          literals = new;
          some = (some, tt);
          tells = ap (λ x. x ∷ lines) is ∙ ap (λ x. v_line ns ∷ x) r.0;
          closes = append-nil ns ∙ h.1.1;
          sized = all_left (λ x. nat_abs x ≤ n) new (pos 0 ∷ []) (subst (Sized n) h.1.1 sized);
          put = h.1.2 ∙ ap Some (sym (ap (λ x. x.1) r.1));
        },
      )

  claim_rest : (m : M) (s : Status) (lines : List (List ℕ)) (q : Status × M) → Rest (opened s) m lines q → Rest Before m (s_line s ∷ lines) q
  claim_rest m Satisfiable lines q r = (lines, ap (λ x. s_line x ∷ lines) (sym r.0), subst (λ x. Telling n take m x lines q.1) (sym r.0) r.1)
  claim_rest m Unsatisfiable lines q r =
      let none : Telling n take m Unsatisfiable lines m = record { groups = []; literals = []; some = tt; tells = r.0; closes = (refl, refl); sized = tt; put = refl } in
      subst (Rest Before m (s_line Unsatisfiable ∷ lines)) (sym r.1) (lines, refl, none)
  claim_rest m Unknown lines q r =
      let none : Telling n take m Unknown lines m = record { groups = []; literals = []; some = tt; tells = r.0; closes = (refl, refl); sized = tt; put = refl } in
      subst (Rest Before m (s_line Unknown ∷ lines)) (sym r.1) (lines, refl, none)

  line_rest : (kind : Kind) (at : Stage) (m : M) (l : List ℕ) (p : Stage × M) (lines : List (List ℕ)) (q : Status × M) → move n take kind at m l ≡ Some p → Rest p.0 p.1 lines q → Rest at m (cond (is_comment kind) lines (l ∷ lines)) q
  line_rest Comment at m l p lines q h r = subst (λ x. Rest x.0 x.1 lines q) (sym (some_inj (at, m) p h)) r
  line_rest Claim Before m l p lines q h r = go (claim_of l) refl h
    where
      go : (o : Option Status) → claim_of l ≡ o → opening m o ≡ Some p → Rest Before m (l ∷ lines) q
      go None e u = never (cc)
      go (Some s) e u =
          let rest : Rest (opened s) m lines q = subst (λ x. Rest x.0 x.1 lines q) (sym (some_inj (opened s, m) p u)) r in
          subst (λ x. Rest Before m (x ∷ lines) q) (sym (claim_only l s e)) (claim_rest m s lines q rest)
  line_rest Claim Among m l p lines q h r = never (cc)
  line_rest Claim (Past s) m l p lines q h r = never (cc)
  line_rest Values Before m l p lines q h r = never (cc)
  line_rest Values Among m l p lines q h r = let v = values_read m l p h in values_rest m p.1 l lines p.0 q v.0 v.1 v.2 v.3 v.4 r
  line_rest Values (Past s) m l p lines q h r = never (cc)
  line_rest Other at m l p lines q h r = never (cc)

  telling_kind : (l : List ℕ) (ls : List (List ℕ)) → cond (is_comment (kind_of l)) (telling ls) (l ∷ telling ls) ≡ telling (l ∷ ls)
  telling_kind l ls = go (is_comment (kind_of l)) (comment l) (comment_kind l)
    where
      go : (t u : Bool) → t ≡ u → cond t (telling ls) (l ∷ telling ls) ≡ cond (not u) (l ∷ telling ls) (telling ls)
      go true true e = refl
      go true false e = never (cc)
      go false true e = never (cc)
      go false false e = refl

  pub follow_read : (at : Stage) (m : M) (ls : List (List ℕ)) (q : Status × M) → follow n take at m ls ≡ Some q → Rest at m (telling ls) q
  follow_read Before m [] q h = never (cc)
  follow_read Among m [] q h = never (cc)
  follow_read (Past s) m [] q h = (refl, sym (some_inj (s, m) q h))
  follow_read at m (l ∷ ls) q h =
      let p = bind_some (step n take at m l) (λ x. follow n take x.0 x.1 ls) q h in
      subst (λ x. Rest at m x q) (telling_kind l ls) (line_rest (kind_of l) at m l p.0 (telling ls) q p.1 (follow_read p.0.0 p.0.1 ls q p.2))

  -- and back

  step_comment : (at : Stage) (m : M) (l : List ℕ) → comment l ≡ true → step n take at m l ≡ Some (at, m)
  step_comment at m l h = ap (λ x. move n take x at m l) (kind_comment l h)

  on : (at : Stage) (m : M) (l : List ℕ) (ls : List (List ℕ)) (p : Stage × M) (q : Status × M) → step n take at m l ≡ Some p → follow n take p.0 p.1 ls ≡ Some q → follow n take at m (l ∷ ls) ≡ Some q
  on at m l ls p q h r = ap (λ o. bind o (λ x. follow n take x.0 x.1 ls)) h ∙ r

  shut : (s : Status) (m : M) (ls : List (List ℕ)) → telling ls ≡ [] → follow n take (Past s) m ls ≡ Some (s, m)
  shut s m [] h = refl
  shut s m (l ∷ ls) h = ⊎_elim
      (λ (c : comment l ≡ true). on (Past s) m l ls (Past s, m) (s, m) (step_comment (Past s) m l c) (shut s m ls (sym (telling_comment l ls c) ∙ h)))
      (λ (c : comment l ≡ false). never (let q : l ∷ telling ls ≡ [] = sym (telling_line l ls c) ∙ h in cc))
      (cases_Bool (comment l))

  word_back : (m : M) (l : ℤ) → nat_abs l ≤ n → take_word n take m (signed_decimal l) ≡ take m l
  word_back m l h = ap (λ o. bind o (take m)) (back n l below h)

  module _ (no_zero : (m : M) → take m (pos 0) ≡ None) where
    not_zero_word : (m k : M) (l : ℤ) → nat_abs l ≤ n → take m l ≡ Some k → bytes_eq (signed_decimal l) (48 ∷ []) ≡ false
    not_zero_word m k l h t = ⊎_elim
        (λ e.
        let w : signed_decimal l ≡ signed_decimal (pos 0) = same_is (signed_decimal l) (48 ∷ []) e ∙ sym zero_word in
        let q : l ≡ pos 0 = some_inj l (pos 0) (sym (back n l below h) ∙ ap (number_of n) w ∙ back n (pos 0) below (omega arith)) in
        let z : Some k ≡ None = sym t ∙ ap (take m) q ∙ no_zero m in
        never (cc))
        (λ e. e)
        (cases_Bool (bytes_eq (signed_decimal l) (48 ∷ [])))

    words_on : (m k : M) (l : ℤ) (ls : List ℤ) → Sized n (l ∷ ls) → puts take m (l ∷ ls) ≡ Some k → take_words n take m (signed_decimal l) (map signed_decimal ls) ≡ Some (Among, k)
    words_on m k l [] sized h =
        let j = bind_some (take m l) (λ x. Some x) k h in
        cond-false _ _ _ (not_zero_word m j.0 l sized.0 j.1)
        ∙ ap still_among (word_back m l sized.0 ∙ j.1 ∙ j.2)
    words_on m k l (v ∷ ls) sized h =
        let j = bind_some (take m l) (λ x. puts take x (v ∷ ls)) k h in
        ap (λ o. bind o (λ x. take_words n take x (signed_decimal v) (map signed_decimal ls))) (word_back m l sized.0 ∙ j.1)
        ∙ words_on j.0 k v ls sized.1 j.2

    words_close : (m k : M) (l : ℤ) (ls new : List ℤ) → l ∷ ls ≡ new ++ (pos 0 ∷ []) → Sized n new → puts take m new ≡ Some k → take_words n take m (signed_decimal l) (map signed_decimal ls) ≡ Some (Past Satisfiable, k)
    words_close m k l (v ∷ ls) [] e sized h = never (cc)
    words_close m k l [] [] e sized h =
        let z : l ≡ pos 0 = cc in
        ap (last_word n take m) (ap signed_decimal z ∙ zero_word) ∙ ap (λ x. Some (Past Satisfiable, x)) (some_inj m k h)
    words_close m k l [] (x ∷ new) e sized h = let q : new ++ (pos 0 ∷ []) ≡ [] = cc in never (full new (pos 0) [] q)
    words_close m k l (v ∷ ls) (x ∷ new) e sized h =
        let q : x ≡ l = cc in
        let r : v ∷ ls ≡ new ++ (pos 0 ∷ []) = cc in
        let j = bind_some (take m x) (λ y. puts take y new) k h in
        ap (λ o. bind o (λ y. take_words n take y (signed_decimal v) (map signed_decimal ls))) (ap (λ y. take_word n take m (signed_decimal y)) (sym q) ∙ word_back m x sized.0 ∙ j.1)
        ∙ words_close j.0 k v ls new r sized.1 j.2

    line_words : (l : ℤ) (ls : List ℤ) → Sized n (l ∷ ls) → (first_word (signed_decimal l ++ each (λ k. 32 ∷ signed_decimal k) ls) ≡ signed_decimal l) × (later_words (signed_decimal l ++ each (λ k. 32 ∷ signed_decimal k) ls) ≡ map signed_decimal ls)
    line_words l [] sized =
        let free = number_spaceless n (signed_decimal l) l (back n l below sized.0) in
        let one = one_word (signed_decimal l) free in
        let none = append-nil (signed_decimal l) in
        (ap first_word none ∙ one.0, ap later_words none ∙ one.1)
    line_words l (v ∷ ls) sized =
        let free = number_spaceless n (signed_decimal l) l (back n l below sized.0) in
        let cut = word_cut (signed_decimal l) (signed_decimal v ++ each (λ k. 32 ∷ signed_decimal k) ls) free in
        let more = line_words v ls sized.1 in
        (cut.0, cut.1 ∙ ap (λ w. w ∷ later_words (signed_decimal v ++ each (λ k. 32 ∷ signed_decimal k) ls)) more.0 ∙ ap (λ ws. signed_decimal v ∷ ws) more.1)

    values_back : (m : M) (l : ℤ) (ls : List ℤ) (p : Stage × M) → Sized n (l ∷ ls) → take_words n take m (signed_decimal l) (map signed_decimal ls) ≡ Some p → step n take Among m (v_line (l ∷ ls)) ≡ Some p
    values_back m l ls p sized h =
        let ws = line_words l ls sized in
        ap (λ w. take_words n take m w (later_words (signed_decimal l ++ each (λ k. 32 ∷ signed_decimal k) ls))) ws.0 ∙ ap (take_words n take m (signed_decimal l)) ws.1 ∙ h

    -- the first group read, and what it leaves
    group_back : (m k : M) (l : ℤ) (ls : List ℤ) (groups : List (List ℤ)) (literals : List ℤ) → AllByRecursion (λ ns. 0 < length ns) groups → (l ∷ ls) ++ each (λ ns. ns) groups ≡ literals ++ (pos 0 ∷ []) → Sized n literals → puts take m literals ≡ Some k → (lines : List (List ℕ)) → telling lines ≡ map v_line groups → ((rest : List ℤ) (j : M) → each (λ ns. ns) groups ≡ rest ++ (pos 0 ∷ []) → Sized n rest → puts take j rest ≡ Some k → follow n take Among j lines ≡ Some (Satisfiable, k)) → follow n take Among m (v_line (l ∷ ls) ∷ lines) ≡ Some (Satisfiable, k)
    group_back m k l ls [] literals some e sized h lines tells more =
        let is : l ∷ ls ≡ literals ++ (pos 0 ∷ []) = sym (append-nil (l ∷ ls)) ∙ e in
        let all : Sized n (l ∷ ls) = subst (Sized n) (sym is) (All-append (λ x. nat_abs x ≤ n) literals (pos 0 ∷ []) sized (omega arith, tt)) in
        on Among m (v_line (l ∷ ls)) lines (Past Satisfiable, k) (Satisfiable, k) (values_back m l ls (Past Satisfiable, k) all (words_close m k l ls literals is sized h)) (shut Satisfiable k lines tells)
    group_back m k l ls ([] ∷ groups) literals some e sized h lines tells more = absurd (omega (arith, some.0))
    group_back m k l ls ((x ∷ xs) ∷ groups) literals some e sized h lines tells more =
        let r = parted (l ∷ ls) (each (λ ns. ns) ((x ∷ xs) ∷ groups)) literals (pos 0) x (xs ++ each (λ ns. ns) groups) refl e in
        let both = subst (Sized n) r.1 sized in
        let all : Sized n (l ∷ ls) = all_left (λ y. nat_abs y ≤ n) (l ∷ ls) r.0 both in
        let u = puts_append take m k (l ∷ ls) r.0 (subst (λ y. puts take m y ≡ Some k) r.1 h) in
        on Among m (v_line (l ∷ ls)) lines (Among, u.0) (Satisfiable, k) (values_back m l ls (Among, u.0) all (words_on m u.0 l ls all u.1)) (more r.0 u.0 r.2 (all_right (λ y. nat_abs y ≤ n) (l ∷ ls) r.0 both) u.2)

    among : (lines : List (List ℕ)) (m k : M) (groups : List (List ℤ)) (literals : List ℤ) → AllByRecursion (λ ns. 0 < length ns) groups → telling lines ≡ map v_line groups → each (λ ns. ns) groups ≡ literals ++ (pos 0 ∷ []) → Sized n literals → puts take m literals ≡ Some k → follow n take Among m lines ≡ Some (Satisfiable, k)
    among [] m k [] literals some tells e sized h = never (full literals (pos 0) [] (sym e))
    among [] m k (g ∷ groups) literals some tells e sized h = never (cc)
    among (l ∷ lines) m k groups literals some tells e sized h = ⊎_elim
        (λ (c : comment l ≡ true). on Among m l lines (Among, m) (Satisfiable, k) (step_comment Among m l c) (among lines m k groups literals some (sym (telling_comment l lines c) ∙ tells) e sized h))
        (λ (c : comment l ≡ false). go (λ j gs rest. among lines j k gs rest) groups some (sym (telling_line l lines c) ∙ tells) e)
        (cases_Bool (comment l))
      where
        go : ((j : M) (gs : List (List ℤ)) (rest : List ℤ) → AllByRecursion (λ ns. 0 < length ns) gs → telling lines ≡ map v_line gs → each (λ ns. ns) gs ≡ rest ++ (pos 0 ∷ []) → Sized n rest → puts take j rest ≡ Some k → follow n take Among j lines ≡ Some (Satisfiable, k)) → (gs : List (List ℤ)) → AllByRecursion (λ ns. 0 < length ns) gs → l ∷ telling lines ≡ map v_line gs → each (λ ns. ns) gs ≡ literals ++ (pos 0 ∷ []) → follow n take Among m (l ∷ lines) ≡ Some (Satisfiable, k)
        go more [] a t f = never (cc)
        go more ([] ∷ gs) a t f = absurd (omega (arith, a.0))
        go more ((x ∷ xs) ∷ gs) a t f =
            let is : l ≡ v_line (x ∷ xs) = cc in
            let later : telling lines ≡ map v_line gs = cc in
            ap (λ y. follow n take Among m (y ∷ lines)) is ∙ group_back m k x xs gs literals a.1 f sized h lines later (λ rest j. more j gs rest a.1 later)

    claim_back : (s : Status) (m k : M) (lines vs : List (List ℕ)) → telling lines ≡ vs → Telling n take m s vs k → follow n take Before m (s_line s ∷ lines) ≡ Some (s, k)
    claim_back Satisfiable m k lines vs e t = among lines m k t.groups t.literals t.some (e ∙ t.tells) t.closes t.sized t.put
    claim_back Unsatisfiable m k lines vs e t =
        let none : telling lines ≡ [] = e ∙ t.tells ∙ ap (map v_line) t.closes.0 in
        let same : m ≡ k = some_inj m k (ap (puts take m) (sym t.closes.1) ∙ t.put) in
        shut Unsatisfiable m lines none ∙ ap (λ x. Some (Unsatisfiable, x)) same
    claim_back Unknown m k lines vs e t =
        let none : telling lines ≡ [] = e ∙ t.tells ∙ ap (map v_line) t.closes.0 in
        let same : m ≡ k = some_inj m k (ap (puts take m) (sym t.closes.1) ∙ t.put) in
        shut Unknown m lines none ∙ ap (λ x. Some (Unknown, x)) same

    pub follow_back : (s : Status) (m k : M) (lines vs : List (List ℕ)) → telling lines ≡ s_line s ∷ vs → Telling n take m s vs k → follow n take Before m lines ≡ Some (s, k)
    follow_back s m k [] vs h t = never (cc)
    follow_back s m k (l ∷ lines) vs h t = ⊎_elim
        (λ (c : comment l ≡ true). on Before m l lines (Before, m) (s, k) (step_comment Before m l c) (follow_back s m k lines vs (sym (telling_comment l lines c) ∙ h) t))
        (λ (c : comment l ≡ false).
        let q : l ∷ telling lines ≡ s_line s ∷ vs = sym (telling_line l lines c) ∙ h in
        let is : l ≡ s_line s = cc in
        let later : telling lines ≡ vs = cc in
        ap (λ y. follow n take Before m (y ∷ lines)) is ∙ claim_back s m k lines vs later t)
        (cases_Bool (comment l))

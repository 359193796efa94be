-- Texts in lines, and lines in words.
use Rattle.std.proofs.Common.{◌≡◌, ℕ, ◌<◌, Bool, true, false, cond, ◌&&◌, eqb, leb, List, [], ◌∷◌, ◌++◌, length, ℤ, Some, None, Option, sym, refl, ap, ◌∙◌, subst, arith}
use Rattle.std.specs.List.{AllByRecursion}
use Rattle.std.specs.Char.{is_ascii_digit}
use Rattle.std.specs.Str.{all_ascii_digits}
use Rattle.std.proofs.lemmas.List.{append_assoc}
use Rattle.std.proofs.lemmas.Bool.{cond-false, ne_eqb, eqb-true, eqb-false, or_parts, or_from, and_parts}
use Rattle.rules.specs.Lists.{has, each}
use Rattle.lines.specs.Cut.{Unended, ended}
use Rattle.lines.specs.Numbers.{plain, read_on, size_of, below_0, from_0, number_of}
use Rattle.answers.specs.Following.{bind, grow, lines_of, first_word, later_words}

pub never : {P : Type 0} → ◌≡◌ {A = ℕ} 0 1 → P
never e = absurd (omega arith)

pub some_inj : {X : Type 0} (x y : X) → Some x ≡ Some y → x ≡ y
some_inj x y h = cc

pub bind_some : {X Y : Type 0} (o : Option X) (f : X → Option Y) (y : Y) → bind o f ≡ Some y → (x : X) × (o ≡ Some x) × (f x ≡ Some y)
bind_some None f y h = never (cc)
bind_some (Some x) f y h = (x, refl, h)

-- a byte that no member is
unlike : (a b : ℕ) (bs : List ℕ) → has a (b ∷ bs) ≡ false → (eqb b a ≡ false) × (has a bs ≡ false)
unlike a b bs h = let p = or_parts (eqb a b) (has a bs) h in (ne_eqb b a (λ e. eqb-false a b p.0 (sym e)), p.1)

alike : (a b : ℕ) (bs : List ℕ) → eqb b a ≡ false → has a bs ≡ false → has a (b ∷ bs) ≡ false
alike a b bs e h = or_from (eqb a b) (has a bs) (ne_eqb a b (λ q. eqb-false b a e (sym q))) h

-- lines

grown : (o : Option (List (List ℕ))) (b : ℕ) (line : List ℕ) (t : Bool) → t ≡ false → bind (bind o (λ ls. Some (line ∷ ls))) (λ ls. cond t (Some ([] ∷ ls)) (grow b ls)) ≡ bind o (λ ls. Some ((b ∷ line) ∷ ls))
grown None b line t e = refl
grown (Some ls) b line t e = cond-false t (Some ([] ∷ (line ∷ ls))) (Some ((b ∷ line) ∷ ls)) e

pub lines_cut : (line rest : List ℕ) → Unended line → lines_of (line ++ (10 ∷ rest)) ≡ bind (lines_of rest) (λ ls. Some (line ∷ ls))
lines_cut [] rest u = refl
lines_cut (b ∷ line) rest u =
    let p = unlike 10 b line u in
    let grown-by : List (List ℕ) → Option (List (List ℕ)) = λ ls. cond (eqb b 10) (Some ([] ∷ ls)) (grow b ls) in
    ap (λ o. bind o grown-by) (lines_cut line rest p.1) ∙ grown (lines_of rest) b line (eqb b 10) p.0

pub lines_none : (bs : List ℕ) → Unended bs → 0 < length bs → lines_of bs ≡ None
lines_none [] u some = absurd (omega arith)
lines_none (b ∷ []) u some = cond-false (eqb b 10) (Some ([] ∷ [])) None (unlike 10 b [] u).0
lines_none (b ∷ c ∷ bs) u some =
    let grown-by : List (List ℕ) → Option (List (List ℕ)) = λ ls. cond (eqb b 10) (Some ([] ∷ ls)) (grow b ls) in
    ap (λ o. bind o grown-by) (lines_none (c ∷ bs) (unlike 10 b (c ∷ bs) u).1 (omega arith))

pub lines_back : (ls : List (List ℕ)) → AllByRecursion Unended ls → lines_of (ended ls) ≡ Some ls
lines_back [] a = refl
lines_back (l ∷ ls) a =
    ap lines_of (append_assoc l (10 ∷ []) (ended ls))
    ∙ lines_cut l (ended ls) a.0
    ∙ ap (λ o. bind o (λ ks. Some (l ∷ ks))) (lines_back ls a.1)

abbrev AreLines : List ℕ → List (List ℕ) → Type 0
AreLines text ls = (text ≡ ended ls) × AllByRecursion Unended ls

more_lines : (b : ℕ) (bs : List ℕ) (ks : List (List ℕ)) (t : Bool) → eqb b 10 ≡ t → AreLines bs ks → (ls : List (List ℕ)) → cond t (Some ([] ∷ ks)) (grow b ks) ≡ Some ls → AreLines (b ∷ bs) ls
more_lines b bs ks true e h ls q =
    let p : [] ∷ ks ≡ ls = some_inj ([] ∷ ks) ls q in
    subst (AreLines (b ∷ bs)) p (ap (λ x. x ∷ bs) (eqb-true b 10 e) ∙ ap (λ x. 10 ∷ x) h.0, (refl, h.1))
more_lines b bs [] false e h ls q = never (cc)
more_lines b bs (k ∷ ks) false e h ls q =
    let p : (b ∷ k) ∷ ks ≡ ls = some_inj ((b ∷ k) ∷ ks) ls q in
    subst (AreLines (b ∷ bs)) p (ap (λ x. b ∷ x) h.0, (alike 10 b k e h.1.0, h.1.1))

pub lines_only : (text : List ℕ) (ls : List (List ℕ)) → lines_of text ≡ Some ls → AreLines text ls
lines_only [] ls h = subst (AreLines []) (some_inj [] ls h) (refl, tt)
lines_only (b ∷ bs) ls h =
    let r = bind_some (lines_of bs) (λ ks. cond (eqb b 10) (Some ([] ∷ ks)) (grow b ks)) ls h in
    more_lines b bs r.0 (eqb b 10) refl (lines_only bs r.0 r.1) ls r.2

-- words

pub one_word : (w : List ℕ) → has 32 w ≡ false → (first_word w ≡ w) × (later_words w ≡ [])
one_word [] h = (refl, refl)
one_word (b ∷ w) h =
    let p = unlike 32 b w h in
    let r = one_word w p.1 in
    (cond-false (eqb b 32) [] (b ∷ first_word w) p.0 ∙ ap (λ x. b ∷ x) r.0, cond-false (eqb b 32) (first_word w ∷ later_words w) (later_words w) p.0 ∙ r.1)

pub word_cut : (w rest : List ℕ) → has 32 w ≡ false → (first_word (w ++ (32 ∷ rest)) ≡ w) × (later_words (w ++ (32 ∷ rest)) ≡ first_word rest ∷ later_words rest)
word_cut [] rest h = (refl, refl)
word_cut (b ∷ w) rest h =
    let p = unlike 32 b w h in
    let r = word_cut w rest p.1 in
    let all : List ℕ = w ++ (32 ∷ rest) in
    (cond-false (eqb b 32) [] (b ∷ first_word all) p.0 ∙ ap (λ x. b ∷ x) r.0, cond-false (eqb b 32) (first_word all ∷ later_words all) (later_words all) p.0 ∙ r.1)

abbrev pub spaced : List (List ℕ) → List ℕ
spaced ws = each (λ w. 32 ∷ w) ws

pub words_join : (bs : List ℕ) → bs ≡ first_word bs ++ spaced (later_words bs)
words_join [] = refl
words_join (b ∷ bs) = go (eqb b 32) refl (words_join bs)
  where
    go : (t : Bool) → eqb b 32 ≡ t → bs ≡ first_word bs ++ spaced (later_words bs) → b ∷ bs ≡ cond t [] (b ∷ first_word bs) ++ spaced (cond t (first_word bs ∷ later_words bs) (later_words bs))
    go true e ih = ap (λ x. x ∷ bs) (eqb-true b 32 e) ∙ ap (λ x. 32 ∷ x) ih
    go false e ih = ap (λ x. b ∷ x) ih

-- no space stands in a number

digits_spaceless : (ds : List ℕ) → all_ascii_digits ds ≡ true → has 32 ds ≡ false
digits_spaceless [] h = refl
digits_spaceless (b ∷ ds) h =
    let p = and_parts (is_ascii_digit b) (all_ascii_digits ds) h in
    alike 32 b ds (ne_eqb b 32 (λ e. let q : true ≡ false = sym p.0 ∙ ap is_ascii_digit e in never (cc))) (digits_spaceless ds p.1)

chosen : {X : Type 0} (t : Bool) (o : Option X) (x : X) → cond t o None ≡ Some x → (t ≡ true) × (o ≡ Some x)
chosen true o x h = (refl, h)
chosen false o x h = never (cc)

plain_spaceless : (most : ℕ) (ds : List ℕ) (k : ℕ) → size_of most ds ≡ Some k → has 32 ds ≡ false
plain_spaceless most ds k h =
    let p = and_parts (plain ds) (leb (read_on 0 ds) most) (chosen (plain ds && leb (read_on 0 ds) most) (Some (read_on 0 ds)) k h).0 in
    digits_spaceless ds (and_parts _ (all_ascii_digits ds) p.0).1

from_0_some : (o : Option ℕ) (l : ℤ) → from_0 o ≡ Some l → (k : ℕ) × (o ≡ Some k)
from_0_some None l h = never (cc)
from_0_some (Some k) l h = (k, refl)

below_0_some : (o : Option ℕ) (l : ℤ) → below_0 o ≡ Some l → (k : ℕ) × (o ≡ Some k)
below_0_some None l h = never (cc)
below_0_some (Some k) l h = (k, refl)

pub number_spaceless : (most : ℕ) (w : List ℕ) (l : ℤ) → number_of most w ≡ Some l → has 32 w ≡ false
number_spaceless most [] l h = refl
number_spaceless most (b ∷ bs) l h = go (eqb b 45) refl h
  where
    go : (t : Bool) → eqb b 45 ≡ t → cond t (below_0 (size_of most bs)) (from_0 (size_of most (b ∷ bs))) ≡ Some l → has 32 (b ∷ bs) ≡ false
    go true e q =
        let k = below_0_some (size_of most bs) l q in
        let m = eqb-true b 45 e in
        alike 32 b bs (ne_eqb b 32 (λ (f : b ≡ 32). absurd (omega arith))) (plain_spaceless most bs k.0 k.1)
    go false e q = let k = from_0_some (size_of most (b ∷ bs)) l q in plain_spaceless most (b ∷ bs) k.0 k.1

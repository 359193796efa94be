-- Lines added to a list, one after another.
use Rattle.std.proofs.Common.{◌≡◌, ℕ, ◌+◌, ◌<◌, ◌≤◌, true, cond, ltb, [], ◌∷◌, ◌++◌, length, drop, is_ok, Ok, Err, Result, sym, refl, ap, ◌∙◌, subst, append_assoc, append-nil, arith}
use mathlib.Core.List as L
use mathlib.Core.Bool.{false≢true}
use Rattle.std.proofs.lemmas.List.{drop-drop, length-append}
use Rattle.std.proofs.lemmas.Bool.{cond-true, lt-ltb}
use Rattle.rules.specs.declared.line.Line.{Line}
use Rattle.rules.specs.declared.refusal.Refusal.{Refusal}
use Rattle.rules.specs.Refusals.{answer}
use Rattle.problem.proofs.Refused.{refused}
use Rattle.memory.specs.declared.lent_list.List.{List}
use Rattle.memory.specs.Held.{items, spare, room, lent}
use Rattle.rules.specs.Steps.{Rule}
use Rattle.rules.specs.Problems.{Problem}
use Rattle.decoding.specs.Added.{Written, Decodes}

pub written_none : (a : List Line) → Written a [] a
written_none a = record { holds = sym (append-nil (items a)); rest = refl; same_room = refl; same_loan = refl }

pub written_then : (a b c : List Line) (xs ys : L.List Line) → Written a xs b → Written b ys c → Written a (xs ++ ys) c
written_then a b c xs ys h k = record {
  holds = k.holds ∙ ap (λ zs. zs ++ ys) h.holds ∙ append_assoc (items a) xs ys;
  rest = k.rest ∙ ap (drop (length ys)) h.rest ∙ drop-drop (length ys) (length xs) (spare a) ∙ ap (λ n. drop n (spare a)) (sym (length-append xs ys));
  same_room = k.same_room ∙ h.same_room;
  same_loan = k.same_loan ∙ h.same_loan;
}

-- on the way from list s to all the lines: these are left, and there is space for them
abbrev pub Way : List Line → L.List Line → List Line → L.List Line → Type 0
Way s all a left = (length (items a) + length left ≤ room a) × ((b : List Line) → Written a left b → Written s all b)

pub way_more : (s a b : List Line) (all left xs ys : L.List Line) → left ≡ xs ++ ys → Way s all a left → Written a xs b → Way s all b ys
way_more s a b all left xs ys e way h =
    (omega (arith, way.0, ap length e, ap length h.holds, length-append (items a) xs, length-append xs ys, h.same_room), λ z k. way.1 z (subst (λ (l : L.List Line). Written a l z) (sym e) (written_then a b z xs ys h k)))

-- what decode promises, told of equal parts
pub decodes_as : {p q : Problem} {r s : Rule} {t u : ℕ} {bs : L.List ℕ} {a b : List Line} {x : Result Unit Refusal} → p ≡ q → r ≡ s → t ≡ u → Decodes p r t bs a x b → Decodes q s u bs a x b
decodes_as {p} {q} {r} {s} {t} {u} {bs} {a} {b} {x} e k h d = subst (λ (y : Problem). Decodes y s u bs a x b) e (subst (λ (y : Rule). Decodes p y u bs a x b) k (subst (λ y. Decodes p r y bs a x b) h d))

-- only a grant is numbered 0
pub granted : {X : Type 0} (r : Result X Refusal) → answer r ≡ 0 → is_ok r ≡ true
granted (Ok x) e = refl
granted (Err e) z = absurd (refused e z)

pub grant_zero : {X : Type 0} (r : Result X Refusal) → is_ok r ≡ true → answer r ≡ 0
grant_zero (Ok x) e = refl
grant_zero (Err e) z = absurd (false≢true z)

-- a list with space takes one line more
pub added : (a b : List Line) (x : Line) (r : Result Unit Refusal) → answer r ≡ cond (ltb (length (items a)) (room a)) 0 9 → items b ≡ cond (is_ok r) (items a ++ x ∷ []) (items a) → spare b ≡ cond (is_ok r) (drop 1 (spare a)) (spare a) → room b ≡ room a → lent b ≡ lent a → length (items a) < room a → Written a (x ∷ []) b
added a b x r said held left same_room same_loan l =
    let ok = granted r (said ∙ cond-true _ 0 9 (lt-ltb (length (items a)) (room a) l)) in
    record { holds = held ∙ cond-true (is_ok r) _ _ ok; rest = left ∙ cond-true (is_ok r) _ _ ok; same_room = same_room; same_loan = same_loan }

-- The lists after a cut, part by part.
use Rattle.std.proofs.Common.{◌≡◌, ℕ, ◌<◌, ◌≤◌, List, ◌++◌, length, get_or, take, ℤ, refl, ap, ◌∙◌, ap₂, arith, take_all}
use Rattle.std.proofs.lemmas.List.{drop_all}
use Rattle.runs.specs.declared.noted.Noted.{Noted}
use Rattle.runs.specs.declared.place.Record.{Record}
use Rattle.runs.specs.Memory.{Store, first, Memory, EndToEnd, span, with_first}
use Rattle.runs.specs.Calls.{Refutation}
use Rattle.runs.proofs.Storing.{spans, place_at, span_take}

pub same_store : {X : Type 0} (s t : Store X) → s.items ≡ t.items → s.spare ≡ t.spare → s.room ≡ t.room → s ≡ t
same_store {X} s t a b c =
    let made : List X → List X → ℕ → Store X = λ x y z. record { items = x; spare = y; room = z } in
    ap (λ x. made x s.spare s.room) a ∙ (ap (λ y. made t.items y s.room) b ∙ ap (made t.items t.spare) c)

pub same_memory : (m e : Memory) → m.literals ≡ e.literals → m.records ≡ e.records → m ≡ e
same_memory m e a b = ap₂ (λ (x : Store ℤ) (y : Store Record). record { literals = x; records = y }) a b

pub same_refutation : (o p : Refutation) → o.noted ≡ p.noted → o.memory ≡ p.memory → o ≡ p
same_refutation o p a b = ap₂ (λ (x : Noted) (y : Memory). record { noted = x; memory = y }) a b

-- a cut to the whole list changes nothing
pub first_all : {X : Type 0} (s : Store X) (n : ℕ) → length s.items ≤ n → first n s ≡ s
first_all s n h = same_store (first n s) s (take_all n s.items h) (ap (λ x. x ++ s.spare) (drop_all n s.items h)) refl

pub with_all : (m : Memory) (n : ℕ) → EndToEnd 0 m.records.items (length m.literals.items) → length m.records.items ≤ n → with_first n m ≡ m
with_all m n h k =
    let same : span (take n m.records.items) ≡ span m.records.items = ap span (take_all n m.records.items k) in
    same_memory (with_first n m) m (first_all m.literals (span (take n m.records.items)) (omega (arith, spans 0 (length m.literals.items) m.records.items h))) (first_all m.records n k)

-- record n is where the literals are cut
pub cut_place : (m : Memory) (n : ℕ) (r : Record) → EndToEnd 0 m.records.items (length m.literals.items) → n < length m.records.items → r ≡ get_or m.records.items n r → (r.place ≡ span (take n m.records.items)) × (r.place ≤ length m.literals.items)
cut_place m n r h k e =
    let p : r.place ≡ span (take n m.records.items) = omega (arith, ap (λ x. x.place) e, place_at n 0 (length m.literals.items) m.records.items r k h) in
    (p, omega (arith, spans 0 (length m.literals.items) m.records.items h, span_take n m.records.items))

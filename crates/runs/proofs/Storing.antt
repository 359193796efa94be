-- Lemmas in memory, their records end to end.
use Rattle.std.proofs.Common.{◌≡◌, ℕ, zero, suc, ◌+◌, ◌<◌, ◌≤◌, List, [], ◌∷◌, ◌++◌, map, length, get_or, take, drop, ℤ, sym, refl, ap, ◌∙◌, subst, ap₂, arith, length-drop, take-append-drop, length-take-le}
use lib.Seq.{take-append-le, drop-append-le, drop-append_seam, take-length}
use Rattle.std.proofs.lemmas.List.{map_push, take-map}
use Rattle.rules.specs.Clauses.{Clause}
use Rattle.runs.specs.declared.place.Record.{Record}
use Rattle.runs.specs.Memory.{Memory, lemma_at, lemmas_in, EndToEnd, span, with_lemma, with_first}
use Rattle.runs.specs.Laws.{LemmasReadBack}

pub spans : (from to : ℕ) (rs : List Record) → EndToEnd from rs to → from + span rs ≡ to
spans from to [] h = omega (arith, h)
spans from to (r ∷ rs) (_, h) = omega (arith, spans (from + r.length) to rs h)

-- one record more, where the last one ends
pub ends_push : (from to : ℕ) (rs : List Record) (r : Record) → EndToEnd from rs to → r.place ≡ to → EndToEnd from (rs ++ r ∷ []) (to + r.length)
ends_push from to [] r h e = (e ∙ sym h, ap (λ k. k + r.length) h)
ends_push from to (s ∷ rs) r (p, h) e = (p, ends_push (from + s.length) to rs r h e)

pub take_ends : (n from to : ℕ) (rs : List Record) → EndToEnd from rs to → EndToEnd from (take n rs) (from + span (take n rs))
take_ends zero from to rs h = omega arith
take_ends (suc n) from to [] h = omega arith
take_ends (suc n) from to (r ∷ rs) (e, h) =
    let z : from + r.length + span (take n rs) ≡ from + (r.length + span (take n rs)) = omega arith in
    (e, subst (EndToEnd (from + r.length) (take n rs)) z (take_ends n (from + r.length) to rs h))

-- where a record stands: after all the literals of those before it
pub place_at : (n from to : ℕ) (rs : List Record) (d : Record) → n < length rs → EndToEnd from rs to → (get_or rs n d).place ≡ from + span (take n rs)
place_at n from to [] d h k = absurd (omega arith)
place_at zero from to (r ∷ rs) d h (e, _) = omega (arith, e)
place_at (suc n) from to (r ∷ rs) d h (_, k) = omega (arith, place_at n (from + r.length) to rs d (omega arith) k)

pub span_take : (n : ℕ) (rs : List Record) → span (take n rs) ≤ span rs
span_take zero rs = omega arith
span_take (suc n) [] = omega arith
span_take (suc n) (r ∷ rs) = omega (arith, span_take n rs)

-- how many literals a cut leaves
pub cut_length : (n : ℕ) (m : Memory) → EndToEnd 0 m.records.items (length m.literals.items) → length (with_first n m).literals.items ≡ span (take n m.records.items)
cut_length n m h = length-take-le (span (take n m.records.items)) m.literals.items (omega (arith, spans 0 (length m.literals.items) m.records.items h, span_take n m.records.items))

pub cut_ends : (n : ℕ) (m : Memory) → EndToEnd 0 m.records.items (length m.literals.items) → EndToEnd 0 (take n m.records.items) (length (with_first n m).literals.items)
cut_ends n m h =
    let z : 0 + span (take n m.records.items) ≡ length (with_first n m).literals.items = omega (arith, cut_length n m h) in
    subst (EndToEnd 0 (take n m.records.items)) z (take_ends n 0 (length m.literals.items) m.records.items h)

-- literals past the end of a record are not read
same_lemma : (ls more : List ℤ) (p n : ℕ) → p + n ≤ length ls → take n (drop p (ls ++ more)) ≡ take n (drop p ls)
same_lemma ls more p n h = ap (take n) (drop-append-le p ls more (omega arith)) ∙ take-append-le n (drop p ls) more (omega (arith, length-drop p ls))

same_lemmas : (ls more : List ℤ) (from to : ℕ) (rs : List Record) → EndToEnd from rs to → to ≤ length ls → map (lemma_at (ls ++ more)) rs ≡ map (lemma_at ls) rs
same_lemmas ls more from to [] h k = refl
same_lemmas ls more from to (r ∷ rs) (e, h) k =
    ap₂ (λ (x : Clause) (xs : List Clause). x ∷ xs) (same_lemma ls more r.place r.length (omega (arith, e, spans (from + r.length) to rs h))) (same_lemmas ls more (from + r.length) to rs h k)

module _ (m : Memory) (h : EndToEnd 0 m.records.items (length m.literals.items)) where
  read_added : (c : Clause) → lemmas_in (with_lemma m c) ≡ lemmas_in m ++ c ∷ []
  read_added c =
      let ls = m.literals.items in
      let new : Record = record { place = length ls; length = length c } in
      let back : lemma_at (ls ++ c) new ≡ c = ap (take (length c)) (drop-append_seam ls c) ∙ take-length c in
      map_push (lemma_at (ls ++ c)) m.records.items new ∙ ap₂ (λ (xs : List Clause) (x : Clause). xs ++ x ∷ []) (same_lemmas ls c 0 (length ls) m.records.items h (omega arith)) back

  read_first : (n : ℕ) → lemmas_in (with_first n m) ≡ take n (lemmas_in m)
  read_first n =
      let ls = m.literals.items in
      let rs = take n m.records.items in
      let front = take (span rs) ls in
      sym (same_lemmas front (drop (span rs) ls) 0 (length front) rs (cut_ends n m h) (omega arith)) ∙ (ap (λ x. map (lemma_at x) rs) (take-append-drop (span rs) ls) ∙ sym (take-map (lemma_at ls) n m.records.items))

pub lemmas_read_back_lem : LemmasReadBack
lemmas_read_back_lem m h = record { added_last = read_added m h; first_kept = read_first m h }

-- Both slot rules keep the law.
use Rattle.std.proofs.Common.{◌≡◌, ℕ, Bool, true, ◌||◌, ◌⊎◌, List, sym, ◌∙◌, inl, inr, arith}
use Rattle.std.proofs.lemmas.Bool.{ne_eqb, or_right}
use Rattle.rules.specs.Lists.{In, has, shares}
use Rattle.rules.specs.Steps.{Step, single, parallel}
use Rattle.rules.specs.Laws.{SingleLawful, ParallelLawful}
use Rattle.rules.proofs.Tests.{in_any, in_has}

parts_all : (a b : Step) → (a.number ≡ b.number → ⊥) → single a b ≡ true
parts_all a b ne = rw (ne_eqb a.number b.number ne)

pub single_lawful_lem : SingleLawful
single_lawful_lem = record {
  symmetric = λ a b ne. parts_all a b ne ∙ sym (parts_all b a (λ e. ne (sym e)));
  parts = λ a b f ne m k. parts_all a b ne;
}

swap : (a b c d : Bool) → (a || (b || (c || d))) ≡ (c || (d || (a || b)))
swap a b c d = grind arith

in_shares : (xs ys : List ℕ) (f : ℕ) → In f xs → In f ys → shares xs ys ≡ true
in_shares xs ys f m n = in_any (λ x. has x ys) xs f m (in_has f ys n)

parts_shared : (a b : Step) (f : ℕ) → In f a.clears → In f b.needs ⊎ In f b.sets → parallel a b ≡ true
parts_shared a b f m (inl n) = rw (in_shares a.clears b.needs f m n)
parts_shared a b f m (inr n) = or_right (shares a.clears b.needs) _ (rw (in_shares a.clears b.sets f m n))

pub parallel_lawful_lem : ParallelLawful
parallel_lawful_lem = record {
  symmetric = λ a b ne. swap (shares a.clears b.needs) (shares a.clears b.sets) (shares b.clears a.needs) (shares b.clears a.sets);
  parts = λ a b f ne. parts_shared a b f;
}

-- A slot's steps can be carried out one at a time, in any order.
use Rattle.std.proofs.Common.{◌≡◌, ℕ, Bool, true, false, not, ◌&&◌, ◌||◌, List, [], ◌∷◌, sym, refl, ◌∙◌, subst, inl, inr, true≢false, arith}
use Rattle.rules.specs.Lists.{In, Once, any, has}
use Rattle.rules.specs.Steps.{Rule, Lawful}
use Rattle.rules.specs.Problems.{Problem, step}
use Rattle.rules.specs.States.{State, Allowed, CarriedOut, after, cleared, made, move}
use Rattle.rules.specs.Laws.{AnyOrder}
use Rattle.rules.proofs.Tests.{any_none, any_same, is_false, has_in}

-- s: before; c, d: cleared by the first, by a later one; x, y: set by the first, by a later one
join : (s c x d y : Bool) → (x ≡ true → d ≡ false) → ((s && not c || x) && not d || y) ≡ (s && not (c || d) || (x || y))
join s c x d y h = grind arith

kept : (s c x : Bool) → s ≡ true → c ≡ false → (s && not c || x) ≡ true
kept s c x e f = rw (e, f)

-- an end state may be given by an equal one
pub ends_as : (p : Problem) (s : State) (order : List ℕ) (e g : State) → ((f : ℕ) → e f ≡ g f) → CarriedOut p s order e → CarriedOut p s order g
ends_as p s [] e g h k = λ f. k f ∙ h f
ends_as p s (a ∷ more) e g h k = (k.0, ends_as p (move p s a) more e g h k.1)

module _ (p : Problem) (rule : Rule) (law : Lawful rule) where
  carried : (order : List ℕ) → Once order → (s : State) → Allowed p rule s order → CarriedOut p s order (after p s order)
  carried [] o s h = λ f. grind arith
  carried (a ∷ xs) o s h =
      let other : (b : ℕ) → In b xs → a ≡ b → ⊥ = λ b m e. o.0 (subst (λ z. In z xs) (sym e) m) in
      let apart : (b : ℕ) → In b xs → rule (step p a) (step p b) ≡ false = λ b m. h.apart a b (inl refl) (inr m) (other b m) in
      let rest : Allowed p rule (move p s a) xs = record { finds = λ b m f n. kept (s f) (has f (p.clears a)) (has f (p.sets a)) (h.finds b (inr m) f n) (is_false (has f (p.clears a)) (λ c. true≢false (sym (law.parts (step p a) (step p b) f (other b m) (has_in f (p.clears a) c) (inl n)) ∙ apart b m))); apart = λ b c m n. h.apart b c (inr m) (inr n) } in
      let clear : (f : ℕ) → has f (p.sets a) ≡ true → cleared p xs f ≡ false = λ f x. any_none (λ b. has f (p.clears b)) xs (λ b m c. true≢false (sym (law.parts (step p b) (step p a) f (λ e. other b m (sym e)) (has_in f (p.clears b) c) (inr (has_in f (p.sets a) x))) ∙ law.symmetric (step p b) (step p a) (λ e. other b m (sym e)) ∙ apart b m)) in
      (h.finds a (inl refl), ends_as p (move p s a) xs (after p (move p s a) xs) (after p s (a ∷ xs)) (λ f. join (s f) (has f (p.clears a)) (has f (p.sets a)) (cleared p xs f) (made p xs f) (clear f)) (carried xs o.1 (move p s a) rest))

pub any_order : AnyOrder
any_order p rule law s slot h order o =
    let r = carried p rule law order o.once s (record { finds = λ a m. h.finds a ((o.same a).0 m); apart = λ a b m n. h.apart a b ((o.same a).0 m) ((o.same b).0 n) }) in
    let swap : (q : ℕ → Bool) → any q order ≡ any q slot = λ q. any_same q order slot (λ a. (o.same a).0) (λ a. (o.same a).1) in
    ends_as p s order (after p s order) (after p s slot) (λ f. simp swap) r

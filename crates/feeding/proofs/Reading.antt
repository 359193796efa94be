-- What was read of known bytes.
use Rattle.std.proofs.Common.{append_assoc, sym, ◌≡◌, ℕ, List, [], ◌++◌, take, Some, None, IfSome, MatchOption, Option, ap, ◌∙◌, subst}
use Rattle.std.specs.Io.KnownBytes.{Appends}
use Rattle.std.specs.Option.{option_map}
use Rattle.std.proofs.lemmas.List.{append-nil}

pub on_option : {T P P2 : Type 0} {Q Q2 : T → Type 0} (o : Option T) → (P → P2) → ((x : T) → Q x → Q2 x) → MatchOption o P Q → MatchOption o P2 Q2
on_option None f g h = f h
on_option (Some x) f g h = g x h

-- a reader's bytes up to the limit m, read after none; P holds of what was read
pub of_known : (n m : ℕ) (P : List ℕ → Type 0) (front read : List ℕ) (known inner : Option (List ℕ)) → m ≡ n → inner ≡ known → front ≡ [] → IfSome (option_map (take m) inner) (λ xs. read ≡ front ++ xs) → P read → IfSome known (λ bytes. P (take n bytes))
of_known n m P front read None inner e i f h p = tt
of_known n m P front read (Some bytes) inner e i f h p =
    let is : read ≡ front ++ take m bytes = subst (λ o. IfSome (option_map (take m) o) (λ xs. read ≡ front ++ xs)) i h in
    subst P (is ∙ ap (λ k. k ++ take m bytes) f ∙ ap (λ k. take k bytes) e) p

-- the same for all of them
pub of_all : (P : List ℕ → Type 0) (front read : List ℕ) (known : Option (List ℕ)) → front ≡ [] → IfSome known (λ xs. read ≡ front ++ xs) → P read → IfSome known P
of_all P front read None f h p = tt
of_all P front read (Some bytes) f h p = subst P (h ∙ ap (λ k. k ++ bytes) f) p

pub appends_none : (known : Option (List ℕ)) → Appends known known []
appends_none None = tt
appends_none (Some xs) = sym (append-nil xs)

pub appends_more : (a b c : Option (List ℕ)) (xs ys : List ℕ) → Appends a b xs → Appends b c ys → Appends a c (xs ++ ys)
appends_more None b c xs ys h k = tt
appends_more (Some old) None c xs ys h k = absurd h
appends_more (Some old) (Some bs) None xs ys h k = absurd k
appends_more (Some old) (Some bs) (Some cs) xs ys h k = k ∙ ap (λ t. t ++ ys) h ∙ append_assoc old xs ys

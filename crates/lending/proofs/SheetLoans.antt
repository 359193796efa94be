-- The lent memory after decode, from what the list holds and spares.
use Rattle.std.proofs.Common.{◌≡◌, ℕ, List, [], ◌++◌, length, take, drop, sym, ap, ◌∙◌, subst}
use Rattle.std.proofs.lemmas.List.{take-append-drop}
use Rattle.rules.specs.Checks.{Answers}
use Rattle.rules.specs.Steps.{Rule}
use Rattle.rules.specs.Problems.{Problem}
use Rattle.decoding.specs.Decode.{decode_tests}
use Rattle.requests.specs.Lent.{rendered_over}

pub same_tests : (p : Problem) (rule : Rule) (t : ℕ) (truth : List ℕ) (room given n : ℕ) → room ≡ given → Answers (decode_tests p rule t truth room) n → Answers (decode_tests p rule t truth given) n
same_tests p rule t truth room given n e h = subst (λ k. Answers (decode_tests p rule t truth k) n) e h

module _ {X : Type 0} (before after held spared : List X) (len : ℕ) (none : held ≡ []) (all : spared ≡ before) where
  pub list_granted : (sheet : List X) (n : ℕ) → take len after ≡ sheet → drop len after ≡ drop (length sheet) (held ++ spared) → n ≡ length (take len after) → rendered_over sheet before n after
  list_granted sheet n holds rest count =
      let long : n ≡ length sheet = count ∙ ap length holds in
      let same : held ++ spared ≡ before = ap (λ xs. xs ++ spared) none ∙ all in (
        long,
        sym (take-append-drop len after) ∙ ap (λ xs. xs ++ drop len after) holds ∙ ap (λ xs. sheet ++ xs) (rest ∙ ap (drop (length sheet)) same ∙ ap (λ k. drop k before) (sym long)),
      )

  pub list_refused : take len after ≡ held → drop len after ≡ spared → after ≡ before
  list_refused holds rest = sym (take-append-drop len after) ∙ ap (λ xs. xs ++ drop len after) (holds ∙ none) ∙ rest ∙ all

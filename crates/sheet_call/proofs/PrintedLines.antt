-- Lines printed one after another.
use Rattle.std.proofs.Common.{◌≡◌, ℕ, ◌+◌, ◌<◌, ◌≤◌, List, ◌++◌, length, get_or, drop, sym, ap, ◌∙◌}
use Rattle.std.proofs.lemmas.List.{drop_more, drop_all, append_assoc, append-nil}
use Rattle.rules.specs.declared.line.Line.{Line}
use Rattle.sheet_call.specs.Printed.{line_text, sheet_text}

pub printed_more : (lines : List Line) (i : ℕ) (d : Line) (before after : List ℕ) → i < length lines → before ++ sheet_text (drop i lines) ≡ sheet_text lines → after ≡ before ++ line_text (get_or lines i d) → after ++ sheet_text (drop (i + 1) lines) ≡ sheet_text lines
printed_more lines i d before after l h e =
    ap (λ bs. bs ++ sheet_text (drop (i + 1) lines)) e
    ∙ append_assoc before (line_text (get_or lines i d)) (sheet_text (drop (i + 1) lines))
    ∙ ap (λ ls. before ++ sheet_text ls) (sym (drop_more lines i d l))
    ∙ h

pub printed_all : (lines : List Line) (i : ℕ) (out : List ℕ) → length lines ≤ i → out ++ sheet_text (drop i lines) ≡ sheet_text lines → out ≡ sheet_text lines
printed_all lines i out l h = sym (append-nil out) ∙ ap (λ ls. out ++ sheet_text ls) (sym (drop_all i lines l)) ∙ h

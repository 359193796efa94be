use Rattle.lines.proofs.Numerals.{words_are_numbers_lem}
use Rattle.lines.proofs.laws.words_are_numbers.Goals as goal

pub returns : goal.returns
returns c = record { words_are_written_numbers = words_are_numbers_lem }

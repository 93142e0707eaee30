use Rattle.std.proofs.Common.{◌≡◌, ◌≤◌, length, map, take, string_bytes, vec_capacity, vec_len}
use Rattle.command_words.proofs.program.texts.Given as goal

-- the texts of the words before this one, and room for all
abbrev pub invariant-loop-word : goal.invariant-loop-word
invariant-loop-word l = record {
  texts : map (λ t. t.now) l.texts.items ≡ map string_bytes (take l.word-index l.words);
  count : vec_len l.texts ≡ l.word-index;
  room : length l.words ≤ vec_capacity l.texts;
}

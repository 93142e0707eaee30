-- The words of a line. Spaces stand between them, and one that begins with a brace reaches to the
-- brace that closes it.
use Rattle.std.specs.Prelude.{ℕ, suc, List, [], ◌∷◌, Bool, false, ◌==◌, ◌||◌}
use Rattle.std.specs.Prelude.{if◌then◌else◌, take, drop}
use Rattle.bson_json_read.specs.{text_len}

-- the text without the spaces at its start
abbrev pub past_spaces : List ℕ → List ℕ
past_spaces [] = []
past_spaces (b ∷ bs) = if b == 32 then past_spaces bs else b ∷ bs

-- how many bytes stand before the first space
abbrev pub plain_len : List ℕ → ℕ
plain_len [] = 0
plain_len (b ∷ bs) = if b == 32 then 0 else suc (plain_len bs)

-- the text begins with a brace
abbrev pub begins_object : List ℕ → Bool
begins_object [] = false
begins_object (b ∷ bs) = b == 123

-- the text begins as a document or a text in quotes does
abbrev pub begins_value : List ℕ → Bool
begins_value [] = false
begins_value (b ∷ bs) = b == 123 || b == 34

-- how many bytes the first word has
abbrev pub word_len : List ℕ → ℕ
word_len text = if begins_object text then text_len text else plain_len text

-- the first word of a text, which is empty where there is none, and what stands behind it
abbrev pub word_in : List ℕ → List ℕ
word_in text = take (word_len (past_spaces text)) (past_spaces text)

abbrev pub behind : List ℕ → List ℕ
behind text = drop (word_len (past_spaces text)) (past_spaces text)

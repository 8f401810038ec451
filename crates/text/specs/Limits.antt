-- Every limit of a job, each named once.
use Rattle.std.specs.Prelude.{ℕ}

-- refusal 1: bytes of a grammar
abbrev pub grammar_bytes : ℕ
grammar_bytes = 4096

-- refusal 4: levels of round brackets, and of comments
abbrev pub levels : ℕ
levels = 16

-- refusal 11: a grammar's size
abbrev pub most_size : ℕ
most_size = 512

-- refusal 14: characters of a record
abbrev pub record_chars : ℕ
record_chars = 200

-- refusal 15: the fixed length of the grammar table
abbrev pub grammar_table : ℕ
grammar_table = 16384

-- refusal 29: numbers of a reading
abbrev pub reading_numbers : ℕ
reading_numbers = 4096

-- what the program lends: numbers of the main table, bytes of the result; and bytes of a record file that it reads
abbrev pub program_table : ℕ
program_table = 16384

abbrev pub program_bytes : ℕ
program_bytes = 65536

abbrev pub file_bytes : ℕ
file_bytes = 4096

-- What is read of tokens.
use Rattle.std.specs.Prelude.{◌≡◌, Bool, List, [], ℕ, ◌+◌, ◌<◌, T as Holds, length, take, drop}
use Rattle.text.specs.Lists.{Text, any, concat_map}
use Rattle.tree.specs.Tree.{Terminal, Grammar}
use Rattle.tree.specs.Tokens.{terminal_tokens, grammar_tokens, capped, mark_number}
use Rattle.plain.specs.Plain.{fits, width}
use Rattle.xml.specs.Bytes.{escape}
use Rattle.items.specs.Items.{Reads}
use Rattle.xml.specs.Document.{terminal_text, stretch}
use Rattle.left_parse.specs.Steps.{Named}
use Rattle.encode.specs.Out.{enc}
use Rattle.markup.specs.declared.Piece.{Piece}
use Rattle.markup.specs.declared.Source.{Source}
use Rattle.markup.specs.declared.Source.TheVariants.{Table, Record}

-- what stands from there on
abbrev pub sourced : List ℕ → Text → Source → Text
sourced T r (Table cell) = drop cell T
sourced T r (Record place) = drop place.0 r

-- the characters that a piece says
abbrev pub said : List ℕ → Text → Piece → Text
said T r p = take p.count (sourced T r p.from)

-- they are written as the text is, and a test that takes every number above 10FFFF for 110000 finds the same in both
pub record Says (T : List ℕ) (r : Text) (p : Piece) (t : Text) : Type 0 where
  pub same : (v : Bool) → enc (concat_map (escape v) (said T r p)) ≡ enc (concat_map (escape v) t)
  pub tests : (f : ℕ → Bool) → ((c : ℕ) → f (capped c) ≡ f c) → any f (said T r p) ≡ any f t
  pub none : p.count ≡ 0 → t ≡ []
  pub some : (p.count ≡ 0 → ⊥) → 0 < length t

pub record Pieced (T : List ℕ) (token place : ℕ) (p : Piece) : Type 0 where
  pub says : (x : Terminal) (r : Text) → Reads T token (terminal_tokens x) → Holds (fits x (drop place r)) → Says T r p (terminal_text x (stretch r place (place + width x)))

-- the root's token
pub record Headed (T : List ℕ) (head : ℕ) : Type 0 where
  pub named : (g : Grammar) → Reads T 0 (grammar_tokens g) → Named T head (20 + mark_number g.root.mark) g.root.name
  pub fits : head < 4294967298

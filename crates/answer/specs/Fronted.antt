-- Comments before a grammar.
use Rattle.std.specs.Prelude.{◌≡◌, List, ℕ}
use Rattle.text.specs.Lists.{Text}
use Rattle.places.specs.Laws.{Fronted}
use Rattle.answer.specs.Answer.{GrammarText, job, Answer, Checks, Reads, Converts}

-- two grammars whose texts differ only in spacing and comments in front
pub record Fronts (bs bs' : List ℕ) : Type 0 where
  pub text : Text
  pub other : Text
  pub first : GrammarText bs text
  pub second : GrammarText bs' other
  pub fronted : Fronted text other

-- "not refused as 1 to 4"
pub record Past (n : ℕ) : Type 0 where
  pub one : n ≡ 1 → ⊥
  pub two : n ≡ 2 → ⊥
  pub three : n ≡ 3 → ⊥
  pub four : n ≡ 4 → ⊥

-- all the same but the place in the grammar
pub record Alike (a b : Answer) : Type 0 where
  pub number : a.number ≡ b.number
  pub length : a.length ≡ b.length
  pub ambiguous : a.ambiguous ≡ b.ambiguous
  pub version : a.version ≡ b.version
  pub byte : a.places.byte ≡ b.places.byte
  pub fault : a.places.fault ≡ b.places.fault

-- "Two jobs that differ only in comments before the grammar, and are not refused as 1 to 4, differ only in those places."
pub record FrontedLaws : Type 0 where
  pub checking : (gs gs' : List ℕ) → Fronts gs gs' → (a a' : Answer) → Checks gs a → Checks gs' a' → Past a.number → Past a'.number → Alike a a'
  pub reading : (gs gs' rs : List ℕ) (main second : ℕ) → Fronts gs gs' → (old new new' : List ℕ) (a a' : Answer)
      → Reads (job gs rs main second) old a new → Reads (job gs' rs main second) old a' new' → Past a.number → Past a'.number → Alike a a' × (new ≡ new')
  pub converting : (gs gs' rs : List ℕ) (main second : ℕ) → Fronts gs gs' → (old new new' : List ℕ) (a a' : Answer)
      → Converts (job gs rs main second) old a new → Converts (job gs' rs main second) old a' new' → Past a.number → Past a'.number → Alike a a' × (new ≡ new')

-- The laws of judging, over every answer that its definition allows. Statements alone: proofs/Laws.antt has their proof, `laws-hold`.
use Rattle.std.specs.Prelude.{◌≡◌, ◌↔◌, false, ◌&&◌, ◌||◌, List, [], ℕ, ◌≤◌, T, leb, length, take}
use Rattle.text.specs.Lists.{Text}
use Rattle.tree.specs.Tree.{Grammar}
use Rattle.derive.specs.Derive.{Row}
use Rattle.answer.specs.Answer.{Job, of_job, of_reading, Names, grammar_lines, need_lines, scratch_need, as_xml, Answer, Reads, Converts, Judges}
use Rattle.answer.specs.Demands.{None}

-- none of 1 to 15 applies to the job and the list, nor 24
abbrev pub Admits : List ℕ → Job → Type 0
Admits q j = None (grammar_lines j.grammar (need_lines (scratch_need q) j []))

-- two jobs on one grammar and one record; what is lent may differ
pub record SameTexts (j k : Job) : Type 0 where
  pub grammar : k.grammar ≡ j.grammar
  pub input : k.input ≡ j.input

-- what reading leaves with 0 is judged, in a job of the same texts; converting has as much room for its XML
pub record OwnReading (j k : Job) (q : List ℕ) (out : List ℕ) (c : Answer) (out₁ : List ℕ) (b : Answer) (out₂ : List ℕ) : Type 0 where
  pub same : SameTexts j k
  pub old : List ℕ
  pub new : List ℕ
  pub answer : Answer
  pub reads : Reads j old answer new
  pub answered : answer.number ≡ 0
  pub list : q ≡ take answer.length new
  pub converts : Converts j out c out₁
  pub judges : Judges q k out b out₂
  pub admitted : Admits q k

pub record Laws : Type 0 where
  -- "accepts it exactly when the list, used to its last number, is a derivation of exactly this record"
  pub exactly : (q : List ℕ) (j : Job) (old new : List ℕ) (a : Answer) → Judges q j old a new → Admits q j
      → (a.number ≡ 25) ↔ of_job j (λ g r. ((t : Row) × Names q g r t) → ⊥)
  -- "Whatever our own reader writes must be accepted", with whatever room
  pub own : (j k : Job) (q old new old' new' : List ℕ) (a b : Answer) → SameTexts j k → Reads j old a new → a.number ≡ 0 → q ≡ take a.length new
      → Judges q k old' b new' → b.number ≡ 25 → ⊥
  -- and is refused as converting refuses it, or written as converting writes it, but for the word
  pub refused : (j k : Job) (q out out₁ out₂ : List ℕ) (c b : Answer) → OwnReading j k q out c out₁ b out₂ → T (leb 17 c.number && leb c.number 22) → b.number ≡ c.number
  pub written : (j k : Job) (q out out₁ out₂ : List ℕ) (c b : Answer) → OwnReading j k q out c out₁ b out₂ → c.number ≡ 0
      → (b.number ≡ 0) × of_reading j (λ g r t p. (take c.length out₁ ≡ as_xml c.ambiguous g r t p) × (take b.length out₂ ≡ as_xml false g r t p))
  -- "It sets no ambiguous mark", and "29 isn't given", nor is 16
  pub unmarked : (q : List ℕ) (j : Job) (old new : List ℕ) (a : Answer) → Judges q j old a new → a.ambiguous ≡ false
  pub numbers : (q : List ℕ) (j : Job) (old new : List ℕ) (a : Answer) → Judges q j old a new → T (leb a.number 15 || (leb 17 a.number && leb a.number 25))

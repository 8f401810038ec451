-- What is given at the end of a read in rounds is what the uncut call gives.
use mathlib.Core.List.{List}
use mathlib.Core.Path.{◌≡◌, sym, ap, subst}
use Prim.Native.Nat.{ℕ}
use lib.ListN.{length}
use Rattle.text.specs.Limits.{grammar_table}
use Rattle.answer.specs.Answer as defined
use Rattle.answer.specs.Answer.{Job, Reads, Converts}
use Rattle.std.specs.Prelude.{Result, Err}
use Rattle.job.specs.declared.LeftParse.{LeftParse}
use Rattle.exported.specs.declared.Refusal.{Refusal}
use Rattle.job.specs.Parses.{Parses}
use Rattle.exported.specs.declared.Answer.{Answer}
use Rattle.exported.specs.Exported.{shown, refusal_of}
use Rattle.outcome.specs.Given.{Counted, GivesNumbers, Named, GivesXml}
use Rattle.resume.specs.Resume.{EndedAs, early, altered, as-uncut}
use Rattle.ending.specs.declared.Ending.{Ending}
use Rattle.ending.specs.Ending.{EndsWith, early as ends-early, altered as ends-altered, as-uncut as ends-uncut}
use Rattle.uncut.proofs.ReadsAs.{counted, read-given}
use Rattle.uncut.proofs.ConvertsAs.{named, convert-given}

module _ {j : Job} {T new M S P : List ℕ} {r : Ending} where
  -- of a refusal, or of what the stages come to
  of-parse : (Q : Result LeftParse Refusal → Type 0) → ((k : Refusal) → Q (Err k)) → ((p : Result LeftParse Refusal) → Parses j T new P p → Q p) → EndsWith j T new M S P r → Q r.parse
  of-parse Q refused read (ends-early n k t z e x y) = subst Q (sym (ap (λ (o : Ending). o.parse) e)) (refused _)
  of-parse Q refused read (ends-altered t x e) = subst Q (sym (ap (λ (o : Ending). o.parse) e)) (refused _)
  of-parse Q refused read (ends-uncut t p e) = read r.parse p

  pub counted-end : EndsWith j T new M S P r → Counted r.parse P
  counted-end = of-parse (λ p. Counted p P) (λ k. tt) (counted j T new P)

  pub named_end : length T ≡ grammar_table → EndsWith j T new M S P r → Named r.parse T new P
  named_end l = of-parse (λ p. Named p T new P) (λ k. tt) (λ p w. named j T new P p w l)

  module _ (Uncut : Job → List ℕ → defined.Answer → List ℕ → Type 0) (Gives : Result LeftParse Refusal → Type 0) (old new' : List ℕ) (a : Answer)
      (refused : (k : Refusal) → Gives (Err k) → (a ≡ refusal_of k) × (new' ≡ old)) (read : (p : Result LeftParse Refusal) → Parses j T new P p → Gives p → Uncut j old (shown a) new') where
    ended-as : EndsWith j T new M S P r → Gives r.parse → EndedAs Uncut j M S old (record { answer = a; rounds = r.rounds }) new'
    ended-as (ends-early n k t z e x y) g =
        let q = refused _ (subst Gives (ap (λ (o : Ending). o.parse) e) g) in
        early n k t z (λ ι. record { answer = q.0 ι; rounds = (e ι).rounds }) x y q.1
    ended-as (ends-altered t x e) g =
        let q = refused _ (subst Gives (ap (λ (o : Ending). o.parse) e) g) in
        altered t x (λ ι. record { answer = q.0 ι; rounds = (e ι).rounds }) q.1
    ended-as (ends-uncut t p e) g = as-uncut t (read r.parse p g) e

  pub read-end : (old new' : List ℕ) (a : Answer) → EndsWith j T new M S P r → GivesNumbers r.parse P old new' a
      → EndedAs Reads j M S old (record { answer = a; rounds = r.rounds }) new'
  read-end old new' a = ended-as Reads (λ p. GivesNumbers p P old new' a) old new' a (λ k g. g) (λ p w g. (read-given j old T new P p w new' a g).defines)

  pub convert-end : (old new' : List ℕ) (a : Answer) → EndsWith j T new M S P r → GivesXml r.parse T new P old new' a
      → EndedAs Converts j M S old (record { answer = a; rounds = r.rounds }) new'
  convert-end old new' a = ended-as Converts (λ p. GivesXml p T new P old new' a) old new' a (λ k g. g) (λ p w g. (convert-given j old T new P p w new' a g).defines)

-- The first stages together.
use mathlib.Core.Bool.{Bool, true, false, ◌||◌}
use mathlib.Core.Path.{◌≡◌, refl, sym, ap, ◌∙◌, subst}
use mathlib.Core.Logic.{inl, inr, ⊎_elim}
use mathlib.Core.List.{List, [], ◌∷◌}
use Prim.Native.Nat.{ℕ}
use native.Mathlib.Omega.{arith}
use lib.Dec.{ltb, eqb}
use Rattle.std.specs.Prelude.{Ok, Err}
use Rattle.text.specs.Limits.{grammar_table}
use Rattle.text.specs.Utf8.{known}
use Rattle.text.specs.Decode.{break_of}
use Rattle.text.specs.Faults.{every, after_mark}
use Rattle.text.specs.declared.Diagnostic.{Diagnostic}
use Rattle.text.specs.declared.CharPlace.{CharPlace}
use Rattle.plain.specs.Plain.{size}
use Rattle.answer.specs.Answer.{Job, Need, main_need, table_need}
use Rattle.answer.specs.Compute.{fault_in, need_tests, Value, value, value_at, places_at, place_values, check_values, job_values}
use Rattle.answer.proofs.Noted.{value-skip}
use Rattle.answer.proofs.Stages.{stage-15}
use Rattle.load.specs.Loaded.{Turned}
use Rattle.accept.specs.declared.Rules.{Rules}
use Rattle.accept.specs.Accepted.{Kept}
use Rattle.opening.specs.declared.Start.{Start}
use Rattle.opening.specs.Stages.{Takes, Opened, lending, need_of, Small, NotBegun, Opens, BeginsBy}

-- the place of a value depends on those after it no more than they differ
value-cong : (v : Value) (vs ws : List Value) (n : ℕ) → value_at vs n ≡ value_at ws n → value_at (v ∷ vs) n ≡ value_at (v ∷ ws) n
value-cong v vs ws n h = go (eqb n v.number)
  where
    go : (b : Bool) → ◌≡◌ {A = ℕ} (elim b as (λ _. ℕ) [ true ↦ v.value tt | false ↦ value_at vs n ]) (elim b as (λ _. ℕ) [ true ↦ v.value tt | false ↦ value_at ws n ])
    go true = refl
    go false = h

module _ (j : Job) (T new : List ℕ) where
  -- the places of a grammar's refusal are the job's
  same-places : (n : ℕ) → (n ≡ 12 → ⊥) → (n ≡ 13 → ⊥) → (n ≡ 16 → ⊥) → places_at (check_values j.grammar) n ≡ places_at (job_values j) n
  same-places n a b d =
      let two = value 2 (λ _. break_of every j.grammar (after_mark j.grammar)) in
      let three = value 3 (λ _. break_of known j.grammar (after_mark j.grammar)) in
      let twelve = value 12 (λ _. break_of every j.input 0) in
      let thirteen = value 13 (λ _. break_of known j.input 0) in
      let none = value-skip twelve (thirteen ∷ []) n a ∙ value-skip thirteen [] n b in
      let rest = value-cong three [] (twelve ∷ thirteen ∷ []) n (sym none) in
      let e = value-cong two (three ∷ []) (three ∷ twelve ∷ thirteen ∷ []) n rest in
      let f = value-skip (value 16 (λ _. fault_in j)) [] n d in
      λ ι. record { byte = e ι; fault = sym f ι; grammar = value_at (place_values j.grammar) n }

  -- 1 to 11, and 24
  pub ends-grammar : (need : Need) (k : Diagnostic) → Turned j.grammar k → NotBegun need j k
  ends-grammar need k t = record {
    some = t.some;
    early = ⊎_elim (λ l. inl (omega arith)) inr t.early;
    is = λ ts. t.first (need_tests need j ts);
    places = t.places ∙ same-places k.number (λ e. ⊎_elim (λ l. omega arith) (λ l. omega arith) t.early) (λ e. ⊎_elim (λ l. omega arith) (λ l. omega arith) t.early)
        (λ e. ⊎_elim (λ l. omega arith) (λ l. omega arith) t.early);
  }

  -- 12 to 14
  pub ends-record : (need : Need) (p : Rules) → Kept j.grammar T p → (k : Diagnostic) → Takes j.input new (Err k) → NotBegun need j k
  ends-record need p kept k t =
      let s = t need j refl in
      record { some = s.some; early = s.early; is = λ ts. kept.first (need_tests need j ts) ∙ s.is ts; places = s.places }

module _ (gs rs T new : List ℕ) where
  pub opens-grammar : (k : Diagnostic) → Turned gs k → Opens gs rs T new (Err k)
  opens-grammar k t = λ need j eg er. ends-grammar j T new need k (subst (λ (bs : List ℕ). Turned bs k) (sym eg) t)

  module _ (p : Rules) (kept : Kept gs T p) where
    pub opens-record : (k : Diagnostic) → Takes rs new (Err k) → Opens gs rs T new (Err k)
    opens-record k t = λ need j eg er.
        ends-record j T new need p (subst (λ (bs : List ℕ). Kept bs T p) (sym eg) kept) k (subst (λ (bs : List ℕ). Takes bs new (Err k)) (sym er) t)

    pub opens_at : (n : CharPlace) → Takes rs new (Ok n) → Opens gs rs T new (Ok (record { rules = p; chars = n }))
    opens_at n t = record { grammar = kept; input = t }

-- sizes that the need is computed from
pub small : {gs rs T new : List ℕ} (s : Start) → Opened gs rs T new s → Small s
small s o = (omega (arith, o.grammar.sized, o.grammar.small), omega (arith, o.input.count, o.input.short))

-- 15, where k is what the first table needs
module _ (need : Need) (j : Job) (T new : List ℕ) (k : ℕ) where
  abbrev short : Bool
  short = ltb j.main_table k || ltb j.second_table grammar_table

  pub lent_at : (s : Start) (o : Opened j.grammar j.input T new s) → k ≡ need o.grammar.tree o.input.chars → BeginsBy need j T new (lending s short)
  lent_at s o f = go short (ap (λ (n : ℕ). ltb j.main_table n || ltb j.second_table grammar_table) (sym f))
    where
      go : (c : Bool) → (ltb j.main_table (need o.grammar.tree o.input.chars) || ltb j.second_table grammar_table) ≡ c → BeginsBy need j T new (lending s c)
      go true w = record {
        some = λ e. omega arith;
        early = inl (omega arith);
        places = refl;
        is = λ ts. o.grammar.first (need_tests need j ts) ∙ stage-15 need j ts o.input.chars o.input.decoded o.input.within o.input.short
            o.grammar.tree o.grammar.is w;
      }
      go false w = record { grammar = o.grammar; input = o.input; enough = w }

pub need-is : {gs rs T new : List ℕ} (s : Start) (o : Opened gs rs T new s) → need_of s ≡ main_need o.grammar.tree o.input.chars
need-is s o = ap (λ (n : ℕ). table_need n s.chars.0) o.grammar.sized ∙ ap (table_need (size o.grammar.tree)) o.input.count

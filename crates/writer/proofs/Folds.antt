-- What is still to be written, event by event.
use mathlib.Core.Path.{◌≡◌, refl, sym, ap, ◌∙◌}
use mathlib.Core.Bool.{Bool, true, false}
use mathlib.Core.List.{List, [], ◌++◌, append_assoc}
use Prim.Native.Nat.{ℕ, ◌≤◌, ◌<◌}
use native.Mathlib.Omega.{arith}
use lib.ListN.{length}
use Rattle.text.specs.Lists.{Text, chars, pick, concat_map}
use Rattle.xml.specs.Document.{Xml, none, attr, elem, text}
use Rattle.xml.specs.Bytes.{escape, attributes}
use Rattle.encode.specs.Out.{State, state, puts, enc, Wrote}
use Rattle.markup.specs.Tags.{closing, lead_of, end_of, state_of, no_words}
use Rattle.markup.specs.declared.StateWords.{StateWords}
use Rattle.text.specs.declared.BytePlace.{BytePlace}
use Rattle.encode.proofs.Puts.{puts_none, enc-none, paid}
use Rattle.cursor.specs.Rest.{Rest, row, within, before}
use Rattle.cursor.specs.Ahead.{Ahead, SomeRow}
use Rattle.cursor.specs.declared.Cursor.{Cursor}
use Rattle.extent.proofs.Folds.{attributes_ahead, attributes-before}
use Rattle.tags.specs.Stated.{start_of, turned}
use Rattle.writer.specs.Markup.{May, Attributed, Came}
use Rattle.tags.specs.declared.Output.{Output}
use Rattle.writer.proofs.Laws.{owed, owed-text, owed-attribute, owed-element, owed-closes, owed-over, plain, is-text}
use Rattle.writer.proofs.Laws.{plain-text, plain-join, text-join, spells-append, attributes-past, Shape, exposed}

-- attributes: to write what is ahead from here comes to the same state as to write all from the beginning
pub record Quoting (rec : Text) (limit : ℕ) (s₀ s : State) (quoted : Bool) (r : Text) (k₀ k : Rest) : Type 0 where
  pub shape : Shape false k₀ → Shape quoted k
  pub owes : r ≡ rec → Shape false k₀ → puts limit s (enc (exposed k)) ≡ puts limit s₀ (enc (exposed k₀))

pub quoting-begin : {rec : Text} {limit : ℕ} {s : State} {r : Text} {k : Rest} → Quoting rec limit s s false r k k
quoting-begin = record { shape = λ h. h; owes = λ e h. refl }

module _ {rec : Text} {limit : ℕ} {s₀ : State} {pos : ℕ} {out : List ℕ} {r : Text} {k₀ : Rest} where
  quoting-on : {quoted quoted' : Bool} {k k' : Rest} {pos' : ℕ} {out' : List ℕ} (t : Text) → (Shape quoted k → Shape quoted' k')
      → (Shape quoted k → exposed k ≡ t ++ exposed k') → (r ≡ rec → Wrote limit pos out pos' out' t)
      → Quoting rec limit s₀ (state pos out) quoted r k₀ k → Quoting rec limit s₀ (state pos' out') quoted' r k₀ k'
  quoting-on {k = k} {k' = k'} t f e w O = record { shape = λ h. f (O.shape h); owes = λ z h. paid t (exposed k') (exposed k) (O.owes z h) (e (O.shape h)) (w z) }

  pub quoting-text : (quoted : Bool) (t : Text) (k : Rest) {pos' : ℕ} {out' : List ℕ}
      → (r ≡ rec → Wrote limit pos out pos' out' (pick quoted (concat_map (escape true) t) []))
      → Quoting rec limit s₀ (state pos out) quoted r k₀ (before (text t) k) → Quoting rec limit s₀ (state pos' out') quoted r k₀ k
  quoting-text quoted t k w = quoting-on (pick quoted (concat_map (escape true) t) []) (shape quoted k) (says quoted k) w
    where
      shape : (q : Bool) (k : Rest) → Shape q (before (text t) k) → Shape q k
      shape false (row x) h = tt
      shape false (within n x k) h = h
      shape true (row x) h = h
      shape true (within n x (row y)) h = text-join t x h
      shape true (within n x (within m y k)) h = h

      says : (q : Bool) (k : Rest) → Shape q (before (text t) k) → exposed (before (text t) k) ≡ pick q (concat_map (escape true) t) [] ++ exposed k
      says false (row x) h = attributes-past t x
      says false (within n x k) h = absurd h
      says true (row x) h = absurd h
      says true (within n x k) h = ap (λ (u : Text). concat_map (escape true) u ++ (chars "'" ++ exposed k)) (plain-join t x)
          ∙ ap (λ (u : Text). u ++ (chars "'" ++ exposed k)) (spells-append (escape true) t (plain x))
          ∙ append_assoc (concat_map (escape true) t) (concat_map (escape true) (plain x)) (chars "'" ++ exposed k)

  pub quoting-element : (quoted : Bool) (n : Text) (i : Xml) (k : Rest)
      → Quoting rec limit s₀ (state pos out) quoted r k₀ (before (elem n i none) k) → Quoting rec limit s₀ (state pos out) quoted r k₀ k
  quoting-element quoted n i k O = record {
    shape = λ h. shape quoted k (O.shape h);
    owes = λ z h. ap (λ (u : Text). puts limit (state pos out) (enc u)) (sym (says quoted k (O.shape h))) ∙ O.owes z h;
  }
    where
      shape : (q : Bool) (k : Rest) → Shape q (before (elem n i none) k) → Shape q k
      shape false (row x) h = tt
      shape false (within m x k) h = h
      shape true (row x) h = h
      shape true (within m x (row y)) h = absurd h
      shape true (within m x (within p y k)) h = h

      says : (q : Bool) (k : Rest) → Shape q (before (elem n i none) k) → exposed (before (elem n i none) k) ≡ exposed k
      says q (row x) h = refl
      says q (within m x k) h = refl

  pub quoting-attribute : (quoted : Bool) (n v : Text) (k : Rest) {pos' : ℕ} {out' : List ℕ}
      → Wrote limit pos out pos' out' (chars " " ++ (n ++ chars "='"))
      → Quoting rec limit s₀ (state pos out) quoted r k₀ (before (attr n v none) k)
      → Quoting rec limit s₀ (state pos' out') true r k₀ (within n (text v) k)
  quoting-attribute quoted n v k w = quoting-on (chars " " ++ (n ++ chars "='")) (shape quoted k) (says quoted k) (λ z. w)
    where
      shape : (q : Bool) (k : Rest) → Shape q (before (attr n v none) k) → Shape true (within n (text v) k)
      shape false (row x) h = is-text v
      shape false (within m x k) h = absurd h
      shape true (row x) h = absurd h
      shape true (within m x (row y)) h = absurd h
      shape true (within m x (within p y k)) h = absurd h

      regroup : (n v y : Text) → chars " " ++ n ++ chars "='" ++ v ++ chars "'" ++ y ≡ (chars " " ++ (n ++ chars "='")) ++ (v ++ (chars "'" ++ y))
      regroup n v y = simp append_assoc

      says : (q : Bool) (k : Rest) → Shape q (before (attr n v none) k) → exposed (before (attr n v none) k) ≡ (chars " " ++ (n ++ chars "='")) ++ exposed (within n (text v) k)
      says false (row x) h = regroup n (concat_map (escape true) v) (attributes x)
          ∙ ap (λ (u : Text). (chars " " ++ (n ++ chars "='")) ++ (concat_map (escape true) u ++ (chars "'" ++ attributes x)))
          (sym (plain-text v))
      says false (within m x k) h = absurd h
      says true (row x) h = absurd h
      says true (within m x (row y)) h = absurd h
      says true (within m x (within p y k)) h = absurd h

  pub quoting-close : (quoted : Bool) (n : Text) (k : Rest) {pos' : ℕ} {out' : List ℕ} → Wrote limit pos out pos' out' (chars "'")
      → Quoting rec limit s₀ (state pos out) quoted r k₀ (within n none k) → Quoting rec limit s₀ (state pos' out') false r k₀ k
  quoting-close quoted n k w = quoting-on (chars "'") (shape quoted k) (λ h. refl) (λ z. w)
    where
      shape : (q : Bool) (k : Rest) → Shape q (within n none k) → Shape false k
      shape false k h = absurd h
      shape true (row y) h = tt
      shape true (within m y k) h = h

pub quoting-end : {T P : List ℕ} {rec : Text} {S S' : List ℕ} {out out' : List ℕ} {o q : Output} {p : BytePlace} {quoted : Bool} {c : Cursor}
    → SomeRow T P rec S c → q ≡ turned o p o.unclosed o.due → ((r : Text) (S₀ : List ℕ) (k₀ : Rest) → Ahead T P r S₀ S c k₀ → (S' ≡ S₀)
    × Quoting rec o.limit.0 (state o.pos.0 out) (state p.0 out') quoted r k₀ (row none))
    → Attributed T P rec S S' out out' o c q
quoting-end {rec = rec} {S = S} {out' = out'} {o = o} {q = q} {p = p} D e h =
    let z : q.pos ≡ p = ap (λ (x : Output). x.pos) e in
    let l = o.limit.0 in
    record {
      kept = (h rec S (row D.x) D.stands).0;
      is = e ∙ ap (λ (x : BytePlace). turned o x o.unclosed o.due) (sym z);
      wrote = λ x A. rw z (record {
        is = sym (puts_none l (state p.0 out')) ∙ sym (ap (puts l (state p.0 out')) enc-none)
            ∙ (h rec S (row x) A).1.owes refl tt;
      });
    }

-- all that is ahead has attributes only where start tags may have some
record MayAhead (o : Output) (k : Rest) : Type 0 where
  bare : o.attributed ≡ false → attributes_ahead k ≡ 0

-- contents, whatever the two ends are
pub record Owing (rec : Text) (o₀ o : Output) (out₀ out : List ℕ) (r : Text) (k₀ k : Rest) : Type 0 where
  may : MayAhead o₀ k₀ → MayAhead o k
  owes : r ≡ rec → MayAhead o₀ k₀ → (e f : Text)
      → puts o₀.limit.0 (state o.pos.0 out) (enc (owed e f (state_of o.due) o.unclosed k))
      ≡ puts o₀.limit.0 (state o₀.pos.0 out₀) (enc (owed e f (state_of o₀.due) o₀.unclosed k₀))

pub owing-begin : {rec : Text} {o : Output} {out : List ℕ} {r : Text} {k : Rest} → Owing rec o o out out r k k
owing-begin = record { may = λ m. m; owes = λ z m e f. refl }

pub same-limit : {l m : BytePlace} {p p' : ℕ} {out out' : List ℕ} {t : Text} → l ≡ m → Wrote l.0 p out p' out' t → Wrote m.0 p out p' out' t
same-limit e w = rw e at w

-- there is as much room as at first
pub room-left : {l m : BytePlace} {a b : ℕ} → l ≡ m → m.0 ≤ a → b ≡ a → l.0 ≤ b
room-left {l} {m} e h k = let z : l.0 ≡ m.0 = ap (λ (x : BytePlace). x.0) e in omega arith

module _ {rec : Text} {o₀ o : Output} {out₀ out : List ℕ} {r : Text} {k₀ : Rest} (l : o.limit ≡ o₀.limit) where
  owing-on : {k k' : Rest} {o' : Output} {out' : List ℕ} {u : Bool} {d : StateWords} (t : Text) → o' ≡ turned o o'.pos u d
      → attributes_ahead k' ≤ attributes_ahead k
      → ((e f : Text) → owed e f (state_of o.due) o.unclosed k ≡ t ++ owed e f (state_of d) u k')
      → (r ≡ rec → MayAhead o k → Wrote o.limit.0 o.pos.0 out o'.pos.0 out' t)
      → Owing rec o₀ o out₀ out r k₀ k → Owing rec o₀ o' out₀ out' r k₀ k'
  owing-on {k} {k'} {o'} {out'} {u} {d} t is a q w O =
      let du : o'.due ≡ d = ap (λ (x : Output). x.due) is in
      let un : o'.unclosed ≡ u = ap (λ (x : Output). x.unclosed) is in
      record {
        may = λ m. record { bare = λ h. omega (arith, (O.may m).bare (sym (ap (λ (x : Output). x.attributed) is) ∙ h)) };
        owes = λ z m e f. rw (du, un) (paid t (owed e f (state_of d) u k') (owed e f (state_of o.due) o.unclosed k) (O.owes z m e f) (q e f)
            (same-limit l (w z (O.may m))));
      }

  pub owing-text : (t : Text) (k : Rest) → 0 < length t → {o' : Output} {out' : List ℕ} → o' ≡ turned o o'.pos false o.due
      → (r ≡ rec → Wrote o.limit.0 o.pos.0 out o'.pos.0 out' (lead_of o.unclosed ++ concat_map (escape false) t))
      → Owing rec o₀ o out₀ out r k₀ (before (text t) k) → Owing rec o₀ o' out₀ out' r k₀ k
  owing-text t k h is w = owing-on (lead_of o.unclosed ++ concat_map (escape false) t) is (omega (arith, attributes-before (text t) k))
      (λ e f. owed-text e f (state_of o.due) o.unclosed t k h) (λ z m. w z)

  pub owing-element : (n : Text) (i : Xml) (k : Rest) {o' : Output} {out' : List ℕ} → o' ≡ turned o o'.pos true no_words
      → (r ≡ rec → May o i → Wrote o.limit.0 o.pos.0 out o'.pos.0 out' (lead_of o.unclosed ++ start_of n (state_of o.due) i))
      → Owing rec o₀ o out₀ out r k₀ (before (elem n i none) k) → Owing rec o₀ o' out₀ out' r k₀ (within n i k)
  owing-element n i k is w = owing-on (lead_of o.unclosed ++ start_of n (state_of o.due) i) is (omega (arith, attributes-before (elem n i none) k))
      (λ e f. owed-element e f (state_of o.due) o.unclosed n i k)
      (λ z m. w z (record { bare = λ h. omega (arith, m.bare h, attributes-before (elem n i none) k) }))

  pub owing-attribute : (n v : Text) (k : Rest) → Owing rec o₀ o out₀ out r k₀ (before (attr n v none) k) → Owing rec o₀ o out₀ out r k₀ k
  owing-attribute n v k O = record {
    may = λ m. record { bare = λ h. omega (arith, (O.may m).bare h, attributes-before (attr n v none) k) };
    owes = λ z m e f. ap (λ (u : Text). puts o₀.limit.0 (state o.pos.0 out) (enc u)) (sym (owed-attribute e f (state_of o.due) o.unclosed n v k))
        ∙ O.owes z m e f;
  }

  pub owing-close : (n : Text) (k : Rest) {o' : Output} {out' : List ℕ} → o' ≡ turned o o'.pos false no_words
      → Wrote o.limit.0 o.pos.0 out o'.pos.0 out' (end_of o.unclosed (chars "/>") (closing n))
      → Owing rec o₀ o out₀ out r k₀ (within n none k) → Owing rec o₀ o' out₀ out' r k₀ k
  owing-close n k is w = owing-on (end_of o.unclosed (chars "/>") (closing n)) is (omega arith) (λ e f. owed-closes e f (state_of o.due) o.unclosed n k) (λ z m. w)

pub owing-end : {T P : List ℕ} {rec : Text} {S S' : List ℕ} {out out' : List ℕ} {o q : Output} {c : Cursor}
    → SomeRow T P rec S c → q.limit ≡ o.limit → ((r : Text) (S₀ : List ℕ) (k₀ : Rest) → Ahead T P r S₀ S c k₀ → (S' ≡ S₀)
    × Owing rec o q out out' r k₀ (row none))
    → Came T P rec S S' out out' o c q
owing-end {rec = rec} {S = S} {out' = out'} {o = o} {q = q} D l h =
    record {
      kept = (h rec S (row D.x) D.stands).0;
      limit = l;
      wrote = λ x A m e f. ap (λ (u : Text). puts o.limit.0 (state q.pos.0 out') (enc u)) (sym (owed-over e f (state_of q.due) q.unclosed))
          ∙ (h rec S (row x) A).1.owes refl (record { bare = m.bare }) e f;
    }

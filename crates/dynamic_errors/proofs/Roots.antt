-- The document of a root, by the row that stands in it.
use mathlib.Core.Path.{◌≡◌, refl, sym, ap, ap₂, ◌∙◌}
use mathlib.Core.Bool.{Bool, true, false, not, ◌||◌}
use mathlib.Core.List.{List, [], ◌∷◌}
use mathlib.Core.Logic.{⊎_elim}
use Prim.Native.Nat.{ℕ, ◌+◌}
use native.Mathlib.Omega.{arith}
use lib.Dec.{eqb}
use lib.ListN.{get_or}
use borrow.Author.Tests.{eq-eqb, eqb-true, eqb-false}
use Rattle.text.specs.Lists.{Text, pick, same}
use Rattle.text.proofs.Lists.{or-false}
use Rattle.text.proofs.Tests.{look}
use Rattle.tree.specs.Tree.{Mark, unmarked, included, attribute, deleted, Grammar}
use Rattle.tree.specs.Tokens.{mark_number}
use Rattle.derive.specs.Derive.{Row, root}
use Rattle.xml.specs.Names.{xml_name}
use Rattle.plain.specs.Plain.{rule_mark}
use Rattle.xml.specs.Document.{Xml, mark_of, document, twice, misnamed, unwritable, is_attribute, not_one, namespaced}
use Rattle.left_parse.specs.Noted.{Room}
use Rattle.left_parse.specs.Steps.{Found, Named}
use Rattle.markup.specs.Pieces.{Headed}
use Rattle.cursor.specs.Ahead.{AtRow, SomeRow, root_at}
use Rattle.cursor.specs.declared.Cursor.{Cursor}
use Rattle.writer.specs.Whole.{Job, SomeJob}
use Rattle.writer.proofs.Whole.{Rooted, rooted, root-row, row-again, found_first, head-number, document-deleted, document-element}
use Rattle.xml_shape.specs.Judges.{Judges}
use Rattle.xml_shape.specs.Names.{repeated}
use Rattle.dynamic_errors.specs.declared.Findings.{Findings}
use Rattle.extent.specs.Extent.{tag, attributes_of, Covers, Grown}
use Rattle.extent.specs.declared.Extent.{Extent}
use Rattle.extent.proofs.Sizes.{not-twice, no_names}
use Rattle.dynamic_errors.specs.declared.Review.{Review}
use Rattle.dynamic_errors.specs.Within.{RowFound, Attributed}
use Rattle.dynamic_errors.specs.Judgment.{topmost, judgment, judgment_of, around, twice_in, misnamed_in, not_one_in, verdict_number, RowJudged, Judged}

-- each judgment of the document, from that of the row: 17
module _ (n : Text) (x : Xml) where
  twice-around : (b : Bool) → twice_in b x ≡ twice (around b n x)
  unfolding twice
  twice-around true = refl
  twice-around false = sym (or-false (repeated x || twice x))

  -- 18
  misnamed-around : (b : Bool) → misnamed_in b n (misnamed x) ≡ misnamed (around b n x)
  unfolding misnamed
  misnamed-around true = refl
  misnamed-around false = sym (or-false (not (xml_name n) || misnamed x))

  -- 19
  unwritable-around : (b : Bool) → unwritable x ≡ unwritable (around b n x)
  unfolding unwritable
  unwritable-around true = refl
  unwritable-around false = sym (or-false (unwritable x))

  -- 21
  not-one-around : (b : Bool) → not_one_in b x ≡ not_one (around b n x)
  unfolding not_one
  not-one-around true = refl
  not-one-around false = refl

  -- 22
  namespaced-around : (b : Bool) → namespaced x ≡ namespaced (around b n x)
  unfolding namespaced
  namespaced-around true = refl
  namespaced-around false = sym (or-false (namespaced x))

-- a row is judged in parts
module _ {T P S : List ℕ} {h : Cursor} {d : Bool} where
  -- a deleted root: the row is all
  pub twice-deleted : d ≡ true → {S' : List ℕ} {b : Bool} → Judges twice T P S S' h b → Judges (twice_in d) T P S S' h b
  twice-deleted e J = record { kept = J.kept; is = λ r x A. J.is r x A ∙ ap (λ (c : Bool). twice_in c x) (sym e) }

  -- the same for one element
  pub not-one-deleted : d ≡ true → {S' : List ℕ} {b : Bool} → Judges not_one T P S S' h b → Judges (not_one_in d) T P S S' h b
  not-one-deleted e J = record { kept = J.kept; is = λ r x A. J.is r x A ∙ ap (λ (c : Bool). not_one_in c x) (sym e) }

  -- an element: its own attributes are compared too
  pub twice-element : d ≡ false → {S₁ S₂ : List ℕ} {a b c : Bool} → Judges twice T P S S₁ h b → Judges repeated T P S₁ S₂ h a → c ≡ (a || b)
      → Judges (twice_in d) T P S S₂ h c
  twice-element e {b = b} J K f = record {
    kept = K.kept ∙ J.kept;
    is = λ r x A. f ∙ ap₂ ◌||◌ (K.is r x (rw J.kept A)) (J.is r x A) ∙ ap (λ (c : Bool). twice_in c x) (sym e);
  }

-- without attributes there is none twice
pub twice-bare : {T P S : List ℕ} {h : Cursor} {a : Bool} (d : Bool) → Attributed T P S h a → a ≡ false → Judges (twice_in d) T P S S h a
twice-bare d U e = record { kept = refl; is = λ r x A. e ∙ sym (none d x (U.bare e r x A)) }
  where
    none : (d : Bool) (x : Xml) → attributes_of x ≡ 0 → twice_in d x ≡ false
    none true x z = not-twice x z
    none false x z = rw (no_names x z, not-twice x z)

-- a row stands as before
pub standing-again : {T P : List ℕ} {r : Text} {S S' : List ℕ} {h : Cursor} → S' ≡ S → SomeRow T P r S h → SomeRow T P r S' h
standing-again e D = rw e D

-- what is found says whether there may be attributes
pub attributed-later : {T P : List ℕ} {r : Text} {S S' : List ℕ} {c : Cursor} {f : Findings} → RowFound T P r S S' c f → Attributed T P S' c f.extent.attributed
attributed-later {T} {P} {c = c} F = record { bare = λ e r x A. (F.covers r x (rw F.told.kept at A)).bare e }

-- equal tests have equal numbers
same_line : {t t' m m' u u' b b' n n' : Bool} (a : Bool) → t ≡ t' → m ≡ m' → u ≡ u' → b ≡ b' → n ≡ n'
    → topmost t m u a b n ≡ topmost t' m' u' a b' n'
same_line a e f g h i = rw (e, f, g, h, i)

-- what the XML of a root takes, by that of its row
around-covers : {e q : Extent} (n : Text) {x : Xml} (d : Bool) → Covers e x → Grown e q (tag n) → q.attributed ≡ e.attributed → Covers q (around d n x)
around-covers n true C G a = record { most = λ l. omega (arith, G.is l, C.most (omega (arith, G.is l))); bare = λ f. C.bare (sym a ∙ f) }
around-covers n false C G a = record {
  most = λ l. omega (arith, G.is l, C.most (omega (arith, G.is l)));
  bare = λ f. omega (arith, C.bare (sym a ∙ f));
}

-- the judgments of a row make that of the root
pub row-judged : {T P : List ℕ} {r : Text} {S S₁ S₂ S₃ : List ℕ} {head mark : ℕ} {h : Cursor} {d t m b : Bool} {f : Findings} {w : Review}
    → mark ≡ get_or T head 0 → d ≡ eqb mark 23 → RowFound T P r S S₁ h f → Judges (twice_in d) T P S₁ S₂ h t
    → ((k : ℕ) (n : Text) → Named T head k n → m ≡ misnamed_in d n f.faults.misnamed) → Judges (not_one_in d) T P S₂ S₃ h b
    → verdict_number w.verdict ≡ topmost t m f.faults.unwritable (eqb mark 22) b f.faults.namespaced
    → ((k : ℕ) (n : Text) → Named T head k n → Grown f.extent w.extent (tag n)) × (w.extent.attributed ≡ f.extent.attributed)
    → RowJudged T P r S S₃ head h w
row-judged {T} {P} {r} {S} {S₁} {S₂} {S₃} {head} {mark} {h} {d} {t} {m} {b} {f} {w} me de F J M K e G = record {
  kept = K.kept ∙ J.kept ∙ F.told.kept;
  is = go;
  covers = λ k n N x A. around-covers n (eqb k 23) (F.covers r x A) (G.0 k n N) G.1;
}
  where
    go : (k : ℕ) (n : Text) → Named T head k n → (x : Xml) → AtRow T P r S h x → verdict_number w.verdict ≡ judgment (eqb k 22) (around (eqb k 23) n x)
    go k n N x A =
        let A₁ : AtRow T P r S₁ h x = rw F.told.kept A in
        let A₂ : AtRow T P r S₂ h x = rw J.kept A₁ in
        let D = F.told.finds x A in
        e
        ∙ same_line
        (eqb mark 22)
        (J.is r x A₁ ∙ twice-around n x d)
        (M k n N ∙ ap (misnamed_in d n) D.misnamed ∙ misnamed-around n x d)
        (D.unwritable ∙ unwritable-around n x d)
        (K.is r x A₂ ∙ not-one-around n x d)
        (D.namespaced ∙ namespaced-around n x d)
        ∙ ap (λ (c : Bool). judgment (eqb mark 22) (around c n x)) de
        ∙ ap (λ (j : ℕ). judgment (eqb j 22) (around (eqb j 23) n x)) (me ∙ head-number N)

-- a name is the same as itself
same_self : (t : Text) → same t t ≡ true
same_self [] = refl
same_self (c ∷ cs) = rw (eq-eqb c c refl) (same_self cs)

-- the root's mark is that of the first rule
root-mark : (g : Grammar) → mark_of g (root g) ≡ g.root.mark
root-mark g = ap (λ (b : Bool). pick b g.root.mark (rule_mark g.others g.root.name)) (same_self g.root.name)

-- a mark is @ where its number says so
attribute-number : (m : Mark) → eqb (20 + mark_number m) 22 ≡ is_attribute m
unfolding is_attribute
attribute-number unmarked = refl
attribute-number included = refl
attribute-number attribute = refl
attribute-number deleted = refl

-- the document stands around what is in the root
document-around : {T P : List ℕ} {r : Text} {S : List ℕ} {item : ℕ} {g : Grammar} {t : Row} (R : Rooted T P r S item g t)
    → document g r t ≡ around (eqb (20 + mark_number g.root.mark) 23) g.root.name R.inner
document-around {g = g} R =
    let k = 20 + mark_number g.root.mark in
    ⊎_elim (λ e. document-deleted R (eqb-true k 23 e) ∙ ap (λ (b : Bool). around b g.root.name R.inner) (sym e))
    (λ e. document-element R (eqb-false k 23 e) ∙ ap (λ (b : Bool). around b g.root.name R.inner) (sym e)) (look (eqb k 23))

-- the row in the root begins at its alternative
pub root-standing : {T : List ℕ} {x : ℕ} {P : List ℕ} {r : Text} {S : List ℕ} {a item : ℕ} {c : Cursor} → Room T P S → SomeJob T x P r S
    → a ≡ get_or P 0 0 → Found T x a item → c ≡ root_at item → SomeRow T P r S c
root-standing {P = P} {item = item} room J e F ce = row-again ce refl (root-row (rooted room J.job item (found_first P e F)))

-- the review of the root is that of the derivation
pub root-judged : {T : List ℕ} {x : ℕ} {P : List ℕ} {r : Text} {S S' : List ℕ} {head a item : ℕ} {c : Cursor} {w : Review}
    → Room T P S → Headed T head → a ≡ get_or P 0 0 → Found T x a item → c ≡ root_at item → RowJudged T P r S S' head c w → Judged T x P r S S' w
root-judged {T} {x} {P} {r} {S} {S'} {head} {a} {item} {c} {w} room H ae F ce J = record { kept = J.kept; is = is; covers = covers }
  where
    stands : {g : Grammar} {t : Row} → Job T x P r S g t → Rooted T P r S item g t
    stands job = rooted room job item (found_first P ae F)

    is : (g : Grammar) (t : Row) → Job T x P r S g t → verdict_number w.verdict ≡ judgment_of g r t
    is g t job =
        let R = stands job in
        J.is (20 + mark_number g.root.mark) g.root.name (H.named g job.tokens) R.inner (rw ce R.stands)
        ∙ ap₂ judgment (attribute-number g.root.mark ∙ ap is_attribute (sym (root-mark g))) (sym (document-around R))

    covers : (g : Grammar) (t : Row) → Job T x P r S g t → Covers w.extent (document g r t)
    covers g t job =
        let R = stands job in
        rw (document-around R) (J.covers (20 + mark_number g.root.mark) g.root.name (H.named g job.tokens) R.inner (rw ce R.stands))

-- What is ahead, event by event: the names of attributes, and whether it is one element.
use mathlib.Core.Path.{◌≡◌, refl, sym, ap, ◌∙◌}
use mathlib.Core.Bool.{Bool, true, false, not, ◌||◌}
use mathlib.Core.List.{List, [], ◌∷◌, ◌++◌, append_assoc}
use Prim.Native.Nat.{ℕ, ◌+◌, ◌≤◌, ◌<◌}
use native.Mathlib.Omega.{arith}
use lib.ListN.{length, set}
use Rattle.text.specs.Lists.{Text, repeats, pick}
use Rattle.text.proofs.Lists.{or_assoc, or-false}
use Rattle.xml.specs.Document.{Xml, none, char, attr, elem, join, text, attribute_names, not_one}
use Rattle.xml.proofs.Rows.{names-join}
use Rattle.left_parse.specs.Steps.{Named}
use Rattle.cursor.specs.Rest.{Rest, row, within, before}
use Rattle.cursor.specs.Ahead.{Ahead, SomeRow}
use Rattle.cursor.specs.declared.Cursor.{Cursor}
use Rattle.xml_shape.specs.Judges.{Judges}
use Rattle.xml_shape.specs.Names.{repeated, clashes, Listed, Seen, Fresh, name_tokens}
use Rattle.xml_shape.specs.One.{more, shape, is_one}
use Rattle.xml_shape.specs.declared.Shape.{Shape}
use Rattle.xml_shape.specs.declared.Shape.TheVariants.{Nothing, Other}
use Rattle.xml_shape.proofs.Laws.{clashes-begin, listed-set, listed_more, else, one-shape}
use Rattle.xml_shape.proofs.Room.{room_for}

-- the names of the attributes that are ahead
abbrev pub names : Rest → List Text
names (row x) = attribute_names x
names (within n x k) = attribute_names x ++ names k

names-before : (x : Xml) (k : Rest) → names (before x k) ≡ attribute_names x ++ names k
names-before x (row y) = names-join x y
names-before x (within n y k) = ap (λ (ns : List Text). ns ++ names k) (names-join x y) ∙ append_assoc (attribute_names x) (attribute_names y) (names k)

names-text : (cs : Text) → attribute_names (text cs) ≡ []
names-text [] = refl
names-text (c ∷ cs) = names-text cs

-- the names so far are listed, and with those that are ahead they come to the answer
pub record Tally (T seen : List ℕ) (count : ℕ) (twice : Bool) (r : Text) (k₀ k : Rest) : Type 0 where
  pub ns : List Text
  pub listed : Listed T seen ns
  pub count-is : length ns ≡ count
  pub fresh : Fresh ns
  pub owes : (twice || clashes ns (names k)) ≡ repeats (names k₀)

pub tally-begin : {T seen : List ℕ} {r : Text} {k : Rest} → Tally T seen 0 false r k k
tally-begin {k = k} = record { ns = []; listed = tt; count-is = refl; fresh = tt; owes = clashes-begin (names k) }

module _ {T seen : List ℕ} {count : ℕ} {twice : Bool} {r : Text} {k₀ : Rest} where
  -- what is met has no names
  same_names : {k k' : Rest} → names k ≡ names k' → Tally T seen count twice r k₀ k → Tally T seen count twice r k₀ k'
  same_names e O = record { ns = O.ns; listed = O.listed; count-is = O.count-is; fresh = O.fresh; owes = ap (λ (ms : List Text). twice || clashes O.ns ms) (sym e) ∙ O.owes }

  pub tally-text : (t : Text) (k : Rest) → Tally T seen count twice r k₀ (before (text t) k) → Tally T seen count twice r k₀ k
  tally-text t k = same_names (names-before (text t) k ∙ ap (λ (ns : List Text). ns ++ names k) (names-text t))

  pub tally-element : (n : Text) (i : Xml) (k : Rest) → Tally T seen count twice r k₀ (before (elem n i none) k) → Tally T seen count twice r k₀ k
  tally-element n i k = same_names (names-before (elem n i none) k)

  pub tally-close : (n : Text) (k : Rest) → Tally T seen count twice r k₀ (within n none k) → Tally T seen count twice r k₀ k
  tally-close n k = same_names refl

-- one attribute more
module _ {T seen : List ℕ} {count : ℕ} {r : Text} {k₀ : Rest} (token m : ℕ) (n v : Text) (k : Rest) (N : Named T token m n) (room : name_tokens ≤ length seen) where
  -- its name came before, or some name did
  again : {twice found : Bool} → (twice || found) ≡ true → Seen T seen count token found → Tally T seen count twice r k₀ (before (attr n v none) k)
      → Tally T (set seen count token) count true r k₀ k
  again {twice} {found} e F O =
      let c = O.count-is in
      record {
        ns = O.ns;
        listed = listed-set T seen O.ns count token (omega arith) O.listed;
        count-is = c;
        fresh = O.fresh;
        owes =
            sym (ap (λ (w : Bool). w || clashes (n ∷ O.ns) (names k)) e)
            ∙ or_assoc twice found (clashes (n ∷ O.ns) (names k))
            ∙ ap (λ (w : Bool). twice || (w || clashes (n ∷ O.ns) (names k))) (F.is m n O.ns N O.listed c)
            ∙ sym (ap (λ (ms : List Text). twice || clashes O.ns ms) (names-before (attr n v none) k))
            ∙ O.owes;
      }

  -- it is a new one
  anew : Seen T seen count token false → Tally T seen count false r k₀ (before (attr n v none) k) → Tally T (set seen count token) (count + 1) false r k₀ k
  anew F O =
      let c = O.count-is in
      let f = F.is m n O.ns N O.listed c in
      record {
        ns = n ∷ O.ns;
        listed = listed_more T seen O.ns count token m n c (omega (arith, room_for seen O.ns N O.listed (sym f) O.fresh)) N O.listed;
        count-is = omega arith;
        fresh = (sym f, O.fresh);
        owes =
            ap (λ (w : Bool). w || clashes (n ∷ O.ns) (names k)) f
            ∙ sym (ap (λ (ms : List Text). clashes O.ns ms) (names-before (attr n v none) k))
            ∙ O.owes;
      }

  pub tally-attribute : {twice found both : Bool} → Seen T seen count token found → both ≡ (twice || found) → {count' : ℕ} → count' ≡ pick both count (count + 1)
      → Tally T seen count twice r k₀ (before (attr n v none) k) → Tally T (set seen count token) count' both r k₀ k
  tally-attribute {twice} {found} {both} F e q O = rw (q, e) (go twice found F O)
    where
      go : (twice found : Bool) → Seen T seen count token found → Tally T seen count twice r k₀ (before (attr n v none) k)
          → Tally T (set seen count token) (pick (twice || found) count (count + 1)) (twice || found) r k₀ k
      go true found F O = again {twice = true} {found = found} refl F O
      go false true F O = again {twice = false} {found = true} refl F O
      go false false F O = anew F O

-- the answer of a walk over a row
pub judged : (f : Xml → Bool) {T P : List ℕ} {S S' : List ℕ} {c : Cursor} {b : Bool} → ((r : Text) × SomeRow T P r S c)
    → ((r : Text) (S₀ : List ℕ) (x : Xml) → Ahead T P r S₀ S c (row x) → (S' ≡ S₀) × (b ≡ f x)) → Judges f T P S S' c b
judged f {S = S} D h = record { kept = (h D.0 S D.1.x D.1.stands).0; is = λ r x A. (h r S x A).1 }

pub tally-end : {T seen : List ℕ} {count : ℕ} {twice : Bool} {r : Text} {x : Xml} → Tally T seen count twice r (row x) (row none) → twice ≡ repeated x
tally-end {twice = twice} O = sym (or-false twice) ∙ O.owes

-- the shape of all that is ahead, after what came
abbrev pub shape_of : Shape → Rest → Shape
shape_of n (row x) = shape n x
shape_of n (within m x k) = shape_of (shape n x) k

shape-join : (n : Shape) (x y : Xml) → shape n (join x y) ≡ shape (shape n x) y
shape-join n none y = refl
shape-join n (char c x) y = shape-join Other x y
shape-join n (attr m v x) y = shape-join Other x y
shape-join n (elem m i x) y = shape-join (more n) x y

shape-before : (n : Shape) (x : Xml) (k : Rest) → shape_of n (before x k) ≡ shape_of (shape n x) k
shape-before n x (row y) = shape-join n x y
shape-before n x (within m y k) = ap (λ (q : Shape). shape_of q k) (shape-join n x y)

pub record Sight (sort : Shape) (r : Text) (k₀ k : Rest) : Type 0 where
  pub owes : shape_of sort k ≡ shape_of Nothing k₀

module _ {n : Shape} {r : Text} {k₀ : Rest} where
  pub sight-on : (x : Xml) (k : Rest) {q : Shape} → q ≡ shape n x → Sight n r k₀ (before x k) → Sight q r k₀ k
  sight-on x k e O = record { owes = ap (λ (j : Shape). shape_of j k) e ∙ sym (shape-before n x k) ∙ O.owes }

  pub sight-text : (t : Text) (k : Rest) → 0 < length t → Sight n r k₀ (before (text t) k) → Sight Other r k₀ k
  sight-text [] k l O = absurd (omega arith)
  sight-text (c ∷ t) k l O = sight-on (text (c ∷ t)) k (sym (else (text t))) O

  pub sight-close : (m : Text) (k : Rest) → Sight n r k₀ (within m none k) → Sight n r k₀ k
  sight-close m k O = record { owes = O.owes }

pub sight-begin : {r : Text} {k : Rest} → Sight Nothing r k k
sight-begin = record { owes = refl }

pub sight-end : {n : Shape} {r : Text} {x : Xml} → Sight n r (row x) (row none) → (b : Bool) → b ≡ not (is_one n) → b ≡ not_one x
sight-end {x = x} O b e = e ∙ ap (λ (q : Shape). not (is_one q)) O.owes ∙ one-shape x

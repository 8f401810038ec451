-- Laws of the gate. Statements alone: proofs/Laws.antt has their proof, `laws-hold`.
use Rattle.std.specs.Prelude.{true, not, ◌↔◌, ◌≡◌, T, Float, Ok}
use Rattle.text.specs.Lists.{Text, concat_map}
use Rattle.text.specs.Utf8.{utf8s}
use Rattle.xml.specs.Bytes.{escape}
use Rattle.decimal.specs.Number.{Decimal, Spells}
use Rattle.decimal.specs.Value.{num, Valued}
use Rattle.gate.specs.Gate.{position, beyond, inside, is_box, exchanged, verdict_of, Ruling, Rules}
use Rattle.gate.specs.Compute.{ruling_of}
use Rattle.gate.specs.declared.Gate.{Gate}
use Rattle.gate.specs.declared.Position.{Position}
use Rattle.gate.specs.declared.Verdict.TheVariants.{Inside, Swapped}

-- what "swapped" says of a position: it is outside a box, and the exchanged one is inside, its latitude within 90
pub record IsSwapped (g : Gate) (p : Position) : Type 0 where
  pub box : T (is_box g)
  pub outside : T (not (inside g p))
  pub exchanged_inside : T (inside g (exchanged p))
  pub within_range : T (not (beyond (num 90) (exchanged p).lat.0))

-- a value as it stands between the quotes of an attribute, in bytes
abbrev pub quoted : Text → Text
quoted v = utf8s (concat_map (escape true) v)

pub record Laws : Type 0 where
  -- each gate and two texts have exactly one ruling, and it is the computed one
  pub rules : (g : Gate) (lat lon : Text) → Rules g lat lon (ruling_of g lat lon)
  pub one : (g : Gate) (lat lon : Text) (r : Ruling) → Rules g lat lon r → r ≡ ruling_of g lat lon
  -- exchanging twice gives the same position
  pub twice : (p : Position) → exchanged (exchanged p) ≡ p
  pub is_inside : (g : Gate) (p : Position) → (verdict_of g p ≡ Inside) ↔ T (inside g p)
  pub is_swapped : (g : Gate) (p : Position) → (verdict_of g p ≡ Swapped) ↔ IsSwapped g p
  -- so a ruling of two texts that says "swapped" means that the exchanged position is inside
  pub swapped_texts : (g : Gate) (lat lon : Text) → Rules g lat lon (Ok Swapped)
      → (x : Float) × (y : Float) × Valued lat x × Valued lon y × IsSwapped g (position x y)
  -- what stands between the quotes is a number text exactly when the attribute's text is, and says the same; then the two are equal
  pub attribute : (v : Text) (d : Decimal) → Spells (quoted v) d ↔ Spells v d
  pub bare : (v : Text) (d : Decimal) → Spells v d → quoted v ≡ v

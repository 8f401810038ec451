-- The laws of places hold.
use Rattle.places.specs.Laws.{Laws}
use Rattle.places.proofs.Unique.{one_place, place_inside, in_order}
use Rattle.places.proofs.Exists.{place-5, place-6, place-7, place-8, place-9, place-10}
use Rattle.places.proofs.Fronted.{same-tree, moved-place}

pub laws-hold : Laws
laws-hold = record {
  one = one_place;
  inside = place_inside;
  order = λ t g d. in_order d;
  five = place-5;
  six = place-6;
  seven = place-7;
  eight = place-8;
  nine = place-9;
  ten = place-10;
  trees = same-tree;
  places = moved-place;
}

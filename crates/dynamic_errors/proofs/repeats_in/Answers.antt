use Rattle.dynamic_errors.proofs.repeats_in.Goals as goal

pub inside-first-requires : goal.inside-first-requires
inside-first-requires c = c.requires.item_value.1

pub repeats_attribute-requires : goal.repeats_attribute-requires
repeats_attribute-requires c =
    let N = c.requires.item_value.1 in
    record {
      name_tokens_in_bounds = c.requires.name_tokens_in_bounds;
      some_row = (N.0, record { x = N.1.x; stands = c.inside-first.ensures.goes c.requires.item_value.0 N.0 N.1.S₀ N.1.n N.1.x N.1.k N.1.node });
    }

pub returns : goal.returns
returns c =
    record {
      kept = c.repeats_attribute.ensures.kept;
      is = λ r S₀ n x k A. c.repeats_attribute.ensures.is r x
          (c.inside-first.ensures.goes c.requires.item_value.0 r S₀ n x k A);
    }

use Rattle.accept.proofs.Accepting.{readable, prepared, small, is-ready, unproductive-turned, kept}
use mathlib.Core.Path.{◌∙◌, sym}
use native.Mathlib.Omega.{arith}
use borrow.Author.Rules.{rules}
use Rattle.std.proofs.lemmas.Result.{err_from_is_err_and}
use Rattle.accept.proofs.accept_grammar.Goals as goal

pub returns-in_err-passed : goal.returns-in_err-passed
returns-in_err-passed c =
    let p = err_from_is_err_and c.from_residual.result c.from_residual.ensures.1 in
    rw (p.1, p.2) c.in_err-passed.ensures

pub build_items-root-requires : goal.build_items-root-requires
build_items-root-requires c = prepared _ _ _ c.in_ok-passed.ensures (search rules)

pub some_unproductive-requires : goal.some_unproductive-requires
some_unproductive-requires c =
    record {
      grammar = c.in_ok-passed.ensures.tree;
      ready = is-ready _ _ _ c.in_ok-passed.ensures _ _ _ c.wide-size.ensures (c.build_items-root.ensures _ (readable _ _ _ c.in_ok-passed.ensures));
      long = search rules;
      small = omega (arith, c.wide-size.ensures, small _ _ _ c.in_ok-passed.ensures);
    }

pub returns-then-some_unproductive : goal.returns-then-some_unproductive
returns-then-some_unproductive c =
    let loaded = c.in_ok-passed.ensures in
    let built = c.build_items-root.ensures _ (readable _ _ _ loaded) in
    let ready = is-ready _ _ _ loaded _ _ _ c.wide-size.ensures built in
    unproductive-turned _ _ _ loaded _ _ _ c.wide-size.ensures built _ c.plain.ensures
    (sym (c.some_unproductive.ensures _ ready) ∙ c.if-some_unproductive.true)

pub returns : goal.returns
returns c =
    let loaded = c.in_ok-passed.ensures in
    let built = c.build_items-root.ensures _ (readable _ _ _ loaded) in
    let ready = is-ready _ _ _ loaded _ _ _ c.wide-size.ensures built in
    kept _ _ _ loaded _ _ _ c.wide-size.ensures built
    (sym (c.some_unproductive.ensures _ ready) ∙ c.if-some_unproductive.false)

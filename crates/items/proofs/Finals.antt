-- Where rules begin, with the names; the table after names were linked takes the scanned items over.
use mathlib.Core.Bool.{Bool, true, false, ◌||◌}
use mathlib.Core.List.{List, [], ◌∷◌, ◌++◌, Memᴰ as In}
use mathlib.Core.List.Memᴰ.{append_cases as in-cases}
use mathlib.Core.List.Memᴰ.{append_left as in_left}
use mathlib.Core.List.Memᴰ.{append_right as in_right}
use mathlib.Core.Logic.{inl, inr, ⊎_elim}
use mathlib.Core.Path.{◌≡◌, refl, sym, ap, ap₂, ◌∙◌, subst}
use Prim.Native.Nat.{ℕ, zero, suc, ◌+◌, ◌*◌, ◌<◌, ◌≤◌}
use native.Mathlib.Omega.{arith}
use lib.ListN.{length, get_or, take, drop, length-drop}
use lib.Seq.{get_or-take, get_or-drop, length-take-le, take-take}
use Rattle.text.specs.Lists.{Text, pick, any, same, repeats, concat_map}
use Rattle.text.proofs.Tests.{is_t, same-is, clash}
use Rattle.tree.specs.Tree.{unmarked, Symbol, nonterminal, Rule, Grammar, rules}
use Rattle.tree.specs.Tokens.{name, mark_number}
use Rattle.plain.specs.Written.{written, heads}
use Rattle.plain.specs.Static.{duplicate}
use Rattle.plain.specs.Plain.{alts, rule_for, makes, ruled, weight, rule_mark}
use Rattle.layout.specs.Layout.{starts_of}
use Rattle.items.specs.declared.State.{State}
use Rattle.items.specs.Items.{kind_at, target_at, token_at, Reads, Starts, Among, st-name, Alternatives, Items}
use Rattle.repetitions.specs.Blocks.{kind_by}
use Rattle.items.specs.Final.{Placed, PlacedAll, Final}
use Rattle.items.specs.Scanned.{Listed, l-none, l-rule, RuleCover, RuleBegins, Begins, Clean, Cleans, Whole, Scanned}
use Rattle.items.specs.Linked.{NameAt, head_at, first_at, Linkable, Resolved, Linked}
use Rattle.items.specs.Built.{Cover, Built}
use Rattle.items.proofs.Links.{beside_first}
use Rattle.items.proofs.Blocks.{cover-later}
use Rattle.items.proofs.RuleNames.{first_for, name_starts, among-left, among-right, among-split, same_refl, name-among, Named}
use Rattle.items.proofs.RuleNames.{among-named, named-body, kind-marks, Told}
use Rattle.items.proofs.Adds.{unmarked_names, names-every, names-only}
use Rattle.items.proofs.RuleNames.{token-told, Row, two-suc, two-suc', head-told}

module _ (T : List ℕ) (size : length T ≡ 16384) (K : List ℕ) (k : take 12288 T ≡ K) (n : Text) where
  row_of : {ys : List ℕ} {rs : List Rule} {xs : List ℕ} → Listed K ys rs xs → (row : ℕ)
      → any (same n) (concat_map (λ r. r.name ∷ []) rs) ≡ true
      → ((j : ℕ) → j < row → j < length rs → (y : Text) → NameAt T (get_or ys (2 * j) 0) y → same n y ≡ false)
      → (row < length rs → (y : Text) → NameAt T (get_or ys (2 * row) 0) y → same n y ≡ true) → Row T ys rs xs n row
  row_of l-none row e b t = absurd (clash refl e)
  row_of (l-rule {at = at} {x = x} {ys = ys} {r = r} {rs = rs} {xs = xs} w l) zero e b t =
      let u = head-told T size K k at r w in
      let p : same n r.name ≡ true = t (omega arith) r.name u.holds in
      record { inside = omega arith; first = rw p; low = u.low; mark = rw p u.first }
  row_of (l-rule {at = at} {x = x} {ys = ys} {r = r} {rs = rs} {xs = xs} w l) (suc row) e b t =
      let u = head-told T size K k at r w in
      let p : same n r.name ≡ false = b 0 (omega arith) (omega arith) r.name u.holds in
      let q = row_of l row (rw p at e) (λ j h i y m. b (suc j) (omega arith) (omega arith) y
      (subst (λ (z : ℕ). NameAt T z y) (sym (two-suc ys at x j)) m))
      (λ h y m. t (omega arith) y (subst (λ (z : ℕ). NameAt T z y) (sym (two-suc ys at x row)) m)) in
      record {
        inside = omega (arith, q.inside);
        first = two-suc' ys at x row ∙ q.first ∙ (rw p);
        low = omega (arith, two-suc ys at x row, q.low);
        mark = ap (λ (z : ℕ). get_or T z 0) (two-suc ys at x row) ∙ q.mark ∙ (rw p);
      }

listed-length : {K ys : List ℕ} {rs : List Rule} {xs : List ℕ} → Listed K ys rs xs → length ys ≡ 2 * length rs
listed-length l-none = refl
listed-length (l-rule w l) = omega (arith, listed-length l)

-- items one after the other
placed-all : (F : List ℕ) (g : Grammar) (S : Starts) (xs : List ℕ) (p : ℕ)
    → ((j : ℕ) → 3 * j + 2 < length xs → Placed F g S (p + j) (get_or xs (3 * j) 0) (get_or xs (3 * j + 1) 0) (get_or xs (3 * j + 2) 0))
    → PlacedAll F g S p xs
placed-all F g S [] p h = tt
placed-all F g S (k ∷ []) p h = tt
placed-all F g S (k ∷ t ∷ []) p h = tt
placed-all F g S (k ∷ t ∷ q ∷ xs) p h = (
  subst (λ (z : ℕ). Placed F g S z k t q) (let z : p + 0 ≡ p = omega arith in z) (h 0 (omega arith)),
  placed-all F g S xs (p + 1) (λ j l. moved j (h (suc j) (omega arith))),
)
  where
    moved : (j : ℕ) → Placed F g S (p + suc j) (get_or (k ∷ t ∷ q ∷ xs) (3 * suc j) 0) (get_or (k ∷ t ∷ q ∷ xs) (3 * suc j + 1) 0)
        (get_or (k ∷ t ∷ q ∷ xs) (3 * suc j + 2) 0) → Placed F g S (p + 1 + j) (get_or xs (3 * j) 0) (get_or xs (3 * j + 1) 0)
        (get_or xs (3 * j + 2) 0)
    moved j w =
        let a : p + suc j ≡ p + 1 + j = omega arith in
        let b : 3 * suc j ≡ suc (suc (suc (3 * j))) = omega arith in
        let c : 3 * suc j + 1 ≡ suc (suc (suc (3 * j + 1))) = omega arith in
        let d : 3 * suc j + 2 ≡ suc (suc (suc (3 * j + 2))) = omega arith in
        subst (λ (z : ℕ). Placed F g S (p + 1 + j) (get_or xs (3 * j) 0) (get_or xs (3 * j + 1) 0) (get_or (k ∷ t ∷ q ∷ xs) z 0)) d
        (subst (λ (z : ℕ). Placed F g S (p + 1 + j) (get_or xs (3 * j) 0) (get_or (k ∷ t ∷ q ∷ xs) z 0) (get_or (k ∷ t ∷ q ∷ xs) (3 * suc j + 2) 0)) c
        (subst (λ (z : ℕ). Placed F g S (p + 1 + j) (get_or (k ∷ t ∷ q ∷ xs) z 0) (get_or (k ∷ t ∷ q ∷ xs) (3 * suc j + 1) 0) (get_or (k ∷ t ∷ q ∷ xs) (3 * suc j + 2) 0)) b
        (subst (λ (z : ℕ). Placed F g S z (get_or (k ∷ t ∷ q ∷ xs) (3 * suc j) 0) (get_or (k ∷ t ∷ q ∷ xs) (3 * suc j + 1) 0) (get_or (k ∷ t ∷ q ∷ xs) (3 * suc j + 2) 0)) a w)))

-- an item of a rule of the grammar is one of a name's rule, where no name has two rules
pub record NameCover (rs : List Rule) (xs : List ℕ) (p : ℕ) : Type 0 where
  pub called : Text
  pub known : any (same called) (concat_map (λ r. r.name ∷ []) rs) ≡ true
  pub above : first_for rs xs called ≤ p
  pub under : p < first_for rs xs called + weight (rule_for rs called)

or_left_false : (a b : Bool) → a || b ≡ false → a ≡ false
or_left_false true b e = e
or_left_false false b e = refl

or_right_false : (a b : Bool) → a || b ≡ false → b ≡ false
or_right_false true b e = absurd (clash e refl)
or_right_false false b e = e

name-cover : (rs : List Rule) (xs : List ℕ) (p : ℕ) → repeats (concat_map (λ r. r.name ∷ []) rs) ≡ false → RuleCover rs xs p → NameCover rs xs p
name-cover [] xs p d c = absurd c
name-cover (r ∷ rs) [] p d c = absurd c
name-cover (r ∷ rs) (x ∷ xs) p d (inl c) = record { called = r.name; known = rw (same_refl r.name); above = rw (same_refl r.name) c.0; under = rw (same_refl r.name) c.1 }
name-cover (r ∷ rs) (x ∷ xs) p d (inr c) = go (name-cover rs xs p (or_right_false (any (same r.name) (concat_map (λ r. r.name ∷ []) rs)) (repeats (concat_map (λ r. r.name ∷ []) rs)) d) c)
  where
    go : NameCover rs xs p → NameCover (r ∷ rs) (x ∷ xs) p
    go w = by (same w.called r.name) refl
      where
        by : (b : Bool) → same w.called r.name ≡ b → NameCover (r ∷ rs) (x ∷ xs) p
        by true q = absurd (clash (or_left_false (any (same r.name) (concat_map (λ r. r.name ∷ []) rs))
            (repeats (concat_map (λ r. r.name ∷ []) rs)) d)
            (subst (λ (n : Text). any (same n) (concat_map (λ r. r.name ∷ []) rs) ≡ true) (same-is w.called r.name (is_t q))
            w.known))
        by false q = record { called = w.called; known = rw q w.known; above = rw q w.above; under = rw q w.under }

-- the first rule of a name begins there
first-begins : {K ys : List ℕ} {rs : List Rule} {xs : List ℕ} → Listed K ys rs xs → (n : Text)
    → any (same n) (concat_map (λ r. r.name ∷ []) rs) ≡ true → RuleBegins (first_for rs xs n) (nonterminal unmarked n) rs xs
first-begins l-none n e = absurd (clash refl e)
first-begins (l-rule {x = x} {r = r} {rs = rs} {xs = xs} w l) n e = go (λ t. first-begins l n t) (same n r.name) refl
  where
    go : (any (same n) (concat_map (λ r. r.name ∷ []) rs) ≡ true → RuleBegins (first_for rs xs n) (nonterminal unmarked n) rs xs)
        → (b : Bool) → same n r.name ≡ b → RuleBegins (first_for (r ∷ rs) (x ∷ xs) n) (nonterminal unmarked n) (r ∷ rs) (x ∷ xs)
    go ih true p = inl (rw p, ap (nonterminal unmarked) (sym (same-is n r.name (is_t p))))
    go ih false p =
        let q : first_for (r ∷ rs) (x ∷ xs) n ≡ first_for rs xs n = rw p refl in
        inr (subst (λ (y : ℕ). RuleBegins y (nonterminal unmarked n) rs xs) (sym q) (ih (rw p at e)))

first-clean : (F : List ℕ) (rs : List Rule) (xs : List ℕ) (n : Text) → Cleans F 0 xs → Clean F 0 (first_for rs xs n)
first-clean F [] xs n c = (omega arith, λ y e h. absurd (omega arith))
first-clean F (r ∷ rs) [] n c = (omega arith, λ y e h. absurd (omega arith))
first-clean F (r ∷ rs) (x ∷ xs) n c = by (first-clean F rs xs n c.1) (same n r.name)
  where
    by : Clean F 0 (first_for rs xs n) → (b : Bool) → Clean F 0 (pick b x (first_for rs xs n))
    by d true = c.0
    by d false = d

-- where a rule begins, its name finds it, if no name has two rules
name-begins : (rs : List Rule) (xs : List ℕ) (x : ℕ) (s : Symbol) → repeats (concat_map (λ r. r.name ∷ []) rs) ≡ false → RuleBegins x s rs xs → Named (first_for rs xs) rs x s
name-begins [] xs x s d b = absurd b
name-begins (r ∷ rs) [] x s d b = absurd b
name-begins (r ∷ rs) (y ∷ xs) x s d (inl e) = record { called = r.name; place = rw (same_refl r.name) e.0; symbol = e.1; known = rw (same_refl r.name) }
name-begins (r ∷ rs) (y ∷ xs) x s d (inr b) = go (name-begins rs xs x s (or_right_false (any (same r.name) names) (repeats names) d) b)
  where
    names : List Text
    names = concat_map (λ r. r.name ∷ []) rs

    go : Named (first_for rs xs) rs x s → Named (first_for (r ∷ rs) (y ∷ xs)) (r ∷ rs) x s
    go w = by (same w.called r.name) refl
      where
        by : (b : Bool) → same w.called r.name ≡ b → Named (first_for (r ∷ rs) (y ∷ xs)) (r ∷ rs) x s
        by true q = absurd (clash (or_left_false (any (same r.name) names) (repeats names) d)
            (subst (λ (n : Text). any (same n) names ≡ true) (same-is w.called r.name (is_t q)) w.known))
        by false q = record { called = w.called; place = rw q w.place; symbol = w.symbol; known = rw q w.known }

-- where all rules begin
abbrev all_starts : (g : Grammar) → Starts → List ℕ → Starts
all_starts g S firsts = S ++ name_starts (first_for (rules g) firsts) (rules g)

module _ {g : Grammar} {K T : List ℕ} {s : State} (w : Scanned g K T s) where
  pub scanned-size : length T ≡ 16384
  scanned-size = w.rep.has.size

  row_count : s.rules ≡ length (rules g)
  row_count =
      let e : length (take (2 * w.state.rules) (drop 13824 T)) ≡ 2 * w.state.rules = length-take-le (2 * w.state.rules) (drop 13824 T)
      (rw length-drop (omega (arith, scanned-size, w.rep.has.fit.rules))) in
      let f : length (take (2 * w.state.rules) (drop 13824 T)) ≡ 2 * length (rules g) = ap length w.rep.has.rows ∙ listed-length w.listed in
      omega (arith, e, f, w.rep.rules)

  row_number : (j : ℕ) → j < 2 * length (rules g) → get_or T (13824 + j) 0 ≡ get_or w.state.rows j 0
  row_number j h =
      sym (get_or-drop 13824 T j 0)
      ∙ sym (get_or-take (2 * w.state.rules) (drop 13824 T) j 0 (omega (arith, row_count, w.rep.rules)))
      ∙ ap (λ (l : List ℕ). get_or l j 0) w.rep.has.rows

  head-row : (j : ℕ) → j < length (rules g) → head_at T j ≡ get_or w.state.rows (2 * j) 0
  head-row j h = row_number (2 * j) (omega arith)

  pub first-row : (j : ℕ) → j < length (rules g) → first_at T j ≡ get_or w.state.rows (2 * j + 1) 0
  first-row j h = ap (λ (k : ℕ). get_or T k 0) (let z : 13825 + 2 * j ≡ 13824 + (2 * j + 1) = omega arith in z) ∙ row_number (2 * j + 1) (omega arith)

  item-number : (j : ℕ) → j < 3 * w.state.items → get_or w.state.list j 0 ≡ get_or T (12288 + j) 0
  item-number j h =
      ap (λ (l : List ℕ). get_or l j 0) (sym w.rep.has.list)
      ∙ get_or-take (3 * w.state.items) (drop 12288 T) j 0 h
      ∙ get_or-drop 12288 T j 0

  list_length : length w.state.list ≡ 3 * w.state.items
  list_length = ap length (sym w.rep.has.list) ∙ length-take-le (3 * w.state.items) (drop 12288 T) (rw length-drop (omega (arith, scanned-size, w.rep.has.fit.items)))

  pub scanned-linkable : Linkable T s.items s.rules
  scanned-linkable = record { size = scanned-size; few-items = omega (arith, w.rep.has.fit.items, w.rep.items); few-rules = omega (arith, w.rep.has.fit.rules, w.rep.rules) }

  module _ {F : List ℕ} (l : Linked T s.items s.rules F) where
    item-placed : (p : ℕ) → p < w.state.items → Placed F g (all_starts g w.starts w.firsts) p (kind_at T p) (target_at T p) (token_at T p)
    item-placed p small = go (l.item p (omega (arith, w.rep.items)))
      where
        go : Resolved T s.rules F p → Placed F g (all_starts g w.starts w.firsts) p (kind_at T p) (target_at T p) (token_at T p)
        go r = record {
          kept = λ d. let k = r.kept d in (k.0, k.1, r.token);
          named = λ e m n reads known.
              let told : Told T (token_at T p) (mark_number m) n = token-told T scanned-size (token_at T p) (mark_number m) n reads.more
              (sym (ap (drop (token_at T p)) l.beside.tokens) ∙ reads.stands) in
              let row : Row T w.state.rows (rules g) w.firsts n r.row = row_of T scanned-size w.state.tokens
              w.rep.has.tokens n w.listed r.row known
              (λ j h i y m. (r.found e).before j h n y told.holds (subst (λ (z : ℕ). NameAt T z y) (sym (head-row j i)) m))
              (λ h y m. (r.found e).there (omega (arith, row_count)) n y told.holds
              (subst (λ (z : ℕ). NameAt T z y) (sym (head-row r.row h)) m)) in
              let at : head_at T r.row ≡ get_or w.state.rows (2 * r.row) 0 = head-row r.row row.inside in
              let k = r.linked e (omega (arith, row_count, row.inside)) told.low (omega (arith, row.low)) in
              st-name
              (k.0 ∙ ap₂ kind_by told.first (ap (λ (z : ℕ). get_or T z 0) at ∙ row.mark) ∙ kind-marks m (rule_mark (rules g) n))
              (subst (λ (z : ℕ). Reads F z (name m n ∷ [])) (sym r.token) reads)
              (among-right (target_at F p) (nonterminal unmarked n) w.starts (name_starts (first_for (rules g) w.firsts) (rules g))
              (subst (λ (z : ℕ). Among z (nonterminal unmarked n) (name_starts (first_for (rules g) w.firsts) (rules g)))
              (sym (k.1 ∙ first-row r.row row.inside ∙ row.first))
              (name-among (first_for (rules g) w.firsts) n (rules g) known)));
        }

    listed-placed : (j : ℕ) → 3 * j + 2 < length w.state.list
        → Placed F g (all_starts g w.starts w.firsts) (0 + j) (get_or w.state.list (3 * j) 0) (get_or w.state.list (3 * j + 1) 0)
        (get_or w.state.list (3 * j + 2) 0)
    listed-placed j h =
        let small : j < w.state.items = omega (arith, list_length) in
        let a : get_or w.state.list (3 * j) 0 ≡ kind_at T j = item-number (3 * j) (omega arith) in
        let b : get_or w.state.list (3 * j + 1) 0 ≡ target_at T j = item-number (3 * j + 1) (omega arith)
        ∙ ap (λ (k : ℕ). get_or T k 0) (let z : 12288 + (3 * j + 1) ≡ 12289 + 3 * j = omega arith in z) in
        let c : get_or w.state.list (3 * j + 2) 0 ≡ token_at T j = item-number (3 * j + 2) (omega arith)
        ∙ ap (λ (k : ℕ). get_or T k 0) (let z : 12288 + (3 * j + 2) ≡ 12290 + 3 * j = omega arith in z) in
        let z : 0 + j ≡ j = omega arith in
        rw (a, b, c, z) (item-placed j small)

    scanned-final : Final g w.state.tokens w.state.list w.starts F (all_starts g w.starts w.firsts)
    scanned-final = record {
      tokens = l.beside.tokens ∙ w.rep.has.tokens;
      placed = placed-all F g (all_starts g w.starts w.firsts) w.state.list 0 listed-placed;
      sub = λ x s m. among-left x s w.starts (name_starts (first_for (rules g) w.firsts) (rules g)) m;
    }

    scanned-whole : Whole F g (all_starts g w.starts w.firsts) w.starts w.firsts w.state.items
    scanned-whole = w.whole F (all_starts g w.starts w.firsts) scanned-final

    rule-there : (x : ℕ) (y : Symbol) → Among x y (all_starts g w.starts w.firsts)
        → Alternatives F g (all_starts g w.starts w.firsts) x (alts g y) × (x + weight (alts g y) ≤ w.state.items)
    rule-there x y m =
        ⊎_elim (λ a. scanned-whole.rule x y a) (λ b. named (among-named (first_for (rules g) w.firsts) (rules g) x y b))
        (among-split x y w.starts (name_starts (first_for (rules g) w.firsts) (rules g)) m)
      where
        named : Named (first_for (rules g) w.firsts) (rules g) x y → Alternatives F g (all_starts g w.starts w.firsts) x (alts g y) × (x + weight (alts g y) ≤ w.state.items)
        named v =
            subst (λ (z : Symbol). Alternatives F g (all_starts g w.starts w.firsts) x (alts g z) × (x + weight (alts g z) ≤ w.state.items)) v.symbol
            (subst (λ (z : ℕ). Alternatives F g (all_starts g w.starts w.firsts) z (rule_for (rules g) v.called)
            × (z + weight (rule_for (rules g) v.called) ≤ w.state.items)) v.place
            (named-body F g (all_starts g w.starts w.firsts) w.state.items (rules g) w.firsts v.called scanned-whole.bodies v.known))

    root-known : any (same g.root.name) (heads g) ≡ true
    root-known = rw (same_refl g.root.name)

    -- the first rule is the root's
    root-first : {ys xs : List ℕ} → Listed w.state.tokens ys (rules g) xs → get_or ys 1 0 ≡ first_for (rules g) xs g.root.name
    root-first (l-rule v m) = rw (same_refl g.root.name)

    root-place : get_or F 13825 0 ≡ first_for (rules g) w.firsts g.root.name
    root-place = beside_first l.beside 0 ∙ first-row 0 (omega arith) ∙ root-first w.listed

    abbrev scanned-items : (root : ℕ) → root ≡ get_or F 13825 0 → Items F g root
    scanned-items root e = record {
      starts = all_starts g w.starts w.firsts;
      rule = λ x y m. (rule-there x y m).0;
      below = λ x y m. omega (arith, (rule-there x y m).1, w.count);
      begins = among-right root (nonterminal unmarked g.root.name) w.starts (name_starts (first_for (rules g) w.firsts) (rules g))
          (subst (λ (z : ℕ). Among z (nonterminal unmarked g.root.name) (name_starts (first_for (rules g) w.firsts) (rules g)))
          (sym (e ∙ root-place)) (name-among (first_for (rules g) w.firsts) g.root.name (rules g) root-known));
      spelt = λ p h. scanned-whole.spelt p (omega (arith, w.count));
    }

    rule-clean : (x : ℕ) (y : Symbol) → Among x y (all_starts g w.starts w.firsts) → Clean F 0 x
    rule-clean x y m =
        ⊎_elim (λ a. scanned-whole.apart x y a) (λ b. named (among-named (first_for (rules g) w.firsts) (rules g) x y b))
        (among-split x y w.starts (name_starts (first_for (rules g) w.firsts) (rules g)) m)
      where
        named : Named (first_for (rules g) w.firsts) (rules g) x y → Clean F 0 x
        named v = subst (Clean F 0) v.place (first-clean F (rules g) w.firsts v.called scanned-whole.clean)

    named-cover : (p : ℕ) → NameCover (rules g) w.firsts p → Cover g (all_starts g w.starts w.firsts) p
    named-cover p v = record {
      first = first_for (rules g) w.firsts v.called;
      symbol = nonterminal unmarked v.called;
      among =
          among-right (first_for (rules g) w.firsts v.called) (nonterminal unmarked v.called) w.starts
          (name_starts (first_for (rules g) w.firsts) (rules g))
          (name-among (first_for (rules g) w.firsts) v.called (rules g) v.known);
      above = v.above;
      under = v.under;
    }

    scanned-covered : duplicate g ≡ false → (p : ℕ) → p < w.state.items → Cover g (all_starts g w.starts w.firsts) p
    unfolding duplicate
    scanned-covered d p h =
        ⊎_elim (λ a. cover-later (λ x y m. among-left x y w.starts (name_starts (first_for (rules g) w.firsts) (rules g)) m) a)
        (λ b. named-cover p (name-cover (rules g) w.firsts p d b)) (scanned-whole.covered p h)

    start-begins : (x : ℕ) (y : Symbol) → Among x y (all_starts g w.starts w.firsts) → Begins x y w.starts (rules g) w.firsts
    start-begins x y m =
        ⊎_elim (λ a. inl a) (λ b. inr (named (among-named (first_for (rules g) w.firsts) (rules g) x y b)))
        (among-split x y w.starts (name_starts (first_for (rules g) w.firsts) (rules g)) m)
      where
        named : Named (first_for (rules g) w.firsts) (rules g) x y → RuleBegins x y (rules g) w.firsts
        named v = subst (λ (z : Symbol). RuleBegins x z (rules g) w.firsts) v.symbol
            (subst (λ (z : ℕ). RuleBegins z (nonterminal unmarked v.called) (rules g) w.firsts) v.place
            (first-begins w.listed v.called v.known))

    start-every : (y : Symbol) → In y (ruled g) → (x : ℕ) × Among x y (all_starts g w.starts w.firsts)
    start-every y m =
        let ns = name_starts (first_for (rules g) w.firsts) (rules g) in
        ⊎_elim (λ a. let k = names-every (first_for (rules g) w.firsts) (rules g) y a in (k.0, among-right k.0 y w.starts ns k.1))
        (λ b. let k = w.every y b in (k.0, among-left k.0 y w.starts ns k.1)) (in-cases (unmarked_names (rules g)) m)

    start-only : (x : ℕ) (y : Symbol) → Among x y (all_starts g w.starts w.firsts) → In y (ruled g)
    start-only x y m =
        ⊎_elim (λ a. in_right (unmarked_names (rules g)) (w.only x y a))
        (λ b. in_left (concat_map makes (written g)) (names-only (first_for (rules g) w.firsts) (rules g) x y b))
        (among-split x y w.starts (name_starts (first_for (rules g) w.firsts) (rules g)) m)

    start-laid : duplicate g ≡ false → (x : ℕ) (y : Symbol) → Among x y (starts_of g) → Among x y (all_starts g w.starts w.firsts)
    unfolding duplicate
    start-laid d x y m =
        ⊎_elim (λ a. among-left x y w.starts ns a)
        (λ b. among-right x y w.starts ns (there (name-begins (rules g) w.firsts x y d b))) (w.laid d x y m)
      where
        ns : Starts
        ns = name_starts (first_for (rules g) w.firsts) (rules g)

        there : Named (first_for (rules g) w.firsts) (rules g) x y → Among x y ns
        there v = subst (λ (z : Symbol). Among x z ns) v.symbol (subst (λ (k : ℕ). Among k (nonterminal unmarked v.called) ns) v.place
            (name-among (first_for (rules g) w.firsts) v.called (rules g) v.known))

    pub scanned-built : (root : ℕ) → root ≡ get_or F 13825 0 → Built F g root
    scanned-built root e = record {
      items = scanned-items root e;
      blocks = record {
        covered = λ d p h. scanned-covered d p (omega (arith, w.count));
        apart = λ x y s m q. (rule-clean x s m).1 y q (omega arith);
        single = λ x y z m n. scanned-whole.single x y z (start-begins x y m) (start-begins x z n);
        every = start-every;
        only = start-only;
        laid = start-laid;
      };
    }

    pub scanned-tokens : (T₀ : List ℕ) (end : ℕ) → K ≡ take 12288 T₀ → end ≤ 12288 → take end F ≡ take end T₀
    scanned-tokens T₀ end e h =
        sym (take-take end 12288 F h)
        ∙ ap (take end) (l.beside.tokens ∙ w.rep.has.tokens ∙ w.tokens ∙ e)
        ∙ take-take end 12288 T₀ h

-- The loop goes through the ids of the ones in their order, each with its place.
use borrow.Author.Tests.{tests}
use mathlib.Core.Bool.{Bool}
use mathlib.Core.Path.{◌∙◌}
use Rattle.std.proofs.lemmas.List.{take_all}
use Rattle.std.proofs.Common.{rules, refl, ℕ, ◌≤◌, ◌<◌, ◌≡◌, arith, length, List}
use lib.ListN.{get_or, take, length-append}
use Rattle.std.specs.Prelude.{Option, None, Some}
use Rattle.std.specs.Iterator.{Yields}
use Rattle.std.specs.List.{filter, range_with_len}
use Rattle.std.proofs.lemmas.Iterator.{YieldsList, YieldsList-from_range}
use Rattle.std.proofs.lemmas.Iterator.Consumers.{YieldsList-at, YieldsList-from_filter, YieldsList-from_enumerate, YieldsList-turn, YieldsList-end}
use Rattle.std.proofs.lemmas.List.FromFn.{length-enumerate_from}
use Rattle.bitmap.specs.Sets.{count_where}
use Rattle.bitmap.specs.Bitmaps.{is_one}
use Rattle.bitmap.specs.Operations.{ids_below}
use Rattle.bitmap.proofs.ListsLemmas.{length-ids_below, filter-range, its_place, laid_next}
use Rattle.bitmap.proofs.lists.write_ones.Goals as goal

-- the laws of a loop over a chain, with what the loop has gone through first, which says what the chain's steps are
item_of : {S A B : Type 0} {steps : S → Option A → S → Type 0} {v : A → B} {s : S} {all : List B} (xs : List A) (t : S) (y : Yields steps s xs t) (r : Option A) (u : S) (x : A)
    → r ≡ Some x → steps t r u → YieldsList steps v s all → (length xs < length all) × (v x ≡ get_or all (length xs) (v x))
item_of xs t y r u x e k road = YieldsList-turn road xs t y r u x e k

items_all : {S A B : Type 0} {steps : S → Option A → S → Type 0} {v : A → B} {s : S} {all : List B} (xs : List A) (t : S) (y : Yields steps s xs t) (r : Option A) (u : S)
    → r ≡ None → steps t r u → YieldsList steps v s all → length xs ≡ length all
items_all xs t y r u e k road = (YieldsList-end road xs t y r u e k).1

-- this turn's place and id
turn : (c : goal.In-Some) → (length c.loop-at.yielded < length (ids_below (is_one c.args.b) c.args.b.size)) × (c.in-Some.at ≡ length c.loop-at.yielded) × (c.in-Some.i ≡ get_or (ids_below (is_one c.args.b) c.args.b.size) (length c.loop-at.yielded) 0)
turn c =
    let e = filter-range (is_one c.args.b) c.args.b.size in
    rw (← e)
    (its_place (filter (is_one c.args.b) (range_with_len 0 c.args.b.size)) (length c.loop-at.yielded) c.in-Some.at c.in-Some.i
    (item_of c.loop-at.yielded c.loop-at.at-iterator c.loop-at.yielded_by c.next.result c.next.new.self (c.in-Some.at, c.in-Some.i) c.in-Some.is c.next.ensures.steps
    (YieldsList-at {s = c.into_iter-at-iterator.result} c.into_iter-at-iterator.ensures.into_iter_gives
    (YieldsList-from_enumerate
    (YieldsList-at c.enumerate-at-items.ensures.source
    (YieldsList-from_filter _ (is_one c.args.b)
    (YieldsList-at c.filter.ensures.source (YieldsList-from_range 0 c.args.b.size c.args.b.size refl (omega arith)))
    c.filter.ensures.closure (λ x r q k. search (rules, tests))))
    c.enumerate-at-items.ensures.count))))

-- the slice has room for all
room : (p : ℕ → Bool) (n m : ℕ) → count_where p n ≤ m → length (ids_below p n) ≤ m
room p n m h = rw (length-ids_below p n) h

pub bounds-out-at : goal.bounds-out-at
bounds-out-at c = let t = turn c in let r = room (is_one c.args.b) c.args.b.size _ c.requires in rw (t.1, c.loop-at.auto.out) (omega (arith, t.0, r))

pub loop-at-preserved : goal.loop-at-preserved
loop-at-preserved c =
    let t = turn c in
    rw (t.1, t.2, c.loop-at.invariant, length-append) (laid_next (ids_below (is_one c.args.b) c.args.b.size) c.args.out.now (length c.loop-at.yielded) t.0 (room (is_one c.args.b) c.args.b.size (length c.args.out.now) c.requires))

pub returns : goal.returns
returns c =
    let e = filter-range (is_one c.args.b) c.args.b.size in
    let all : length c.loop-at.yielded ≡ length (ids_below (is_one c.args.b) c.args.b.size) =
    rw (← e)
    (items_all c.loop-at.yielded c.loop-at.at-iterator c.loop-at.yielded_by c.next.result c.next.new.self c.in-None.is c.next.ensures.steps
    (YieldsList-at {s = c.into_iter-at-iterator.result} c.into_iter-at-iterator.ensures.into_iter_gives
    (YieldsList-from_enumerate
    (YieldsList-at c.enumerate-at-items.ensures.source
    (YieldsList-from_filter _ (is_one c.args.b)
    (YieldsList-at c.filter.ensures.source (YieldsList-from_range 0 c.args.b.size c.args.b.size refl (omega arith)))
    c.filter.ensures.closure (λ x r q k. search (rules, tests))))
    c.enumerate-at-items.ensures.count)) ∙ length-enumerate_from 0 _) in
    let ids = ids_below (is_one c.args.b) c.args.b.size in
    let whole : take (length ids) ids ≡ ids = take_all (length ids) ids (omega arith) in
    rw (c.loop-at.invariant, all, whole) refl

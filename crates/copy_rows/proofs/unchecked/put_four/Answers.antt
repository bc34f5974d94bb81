-- `unchecked::put_four` meets its promise: the places are read, and then the values are put one after the other.
-- Assumes nothing.
use mathlib.Core.Path.{◌≡◌}
use Prim.Native.Nat.{◌+◌, ◌<◌}
use native.Mathlib.Omega.{arith}
use lib.ListN.{length, get_or, set}
use lib.Ieee.{nan}
use Rattle.copy_rows.proofs.ScatterLaws.{put_four_more, sets_long}
use Rattle.copy_rows.proofs.unchecked.put_four.Goals as goal

pub place_at-p0-requires : goal.place_at-p0-requires
place_at-p0-requires c = (c.requires.0.long, c.requires.0.low c.args.k (omega (arith, c.requires.1)))

pub place_at-p1-requires : goal.place_at-p1-requires
place_at-p1-requires c = (c.requires.0.long, c.requires.0.low (c.args.k + 1) (omega (arith, c.requires.1)))

pub place_at-p2-requires : goal.place_at-p2-requires
place_at-p2-requires c = (c.requires.0.long, c.requires.0.low (c.args.k + 2) (omega (arith, c.requires.1)))

pub place_at-p3-requires : goal.place_at-p3-requires
place_at-p3-requires c = (c.requires.0.long, c.requires.0.low (c.args.k + 3) (omega (arith, c.requires.1)))

pub offset_bounds-out-p0 : goal.offset_bounds-out-p0
offset_bounds-out-p0 c =
    -- the places are those of the row's values
    let inside : (let room = length c.args.out.now in
    (c.place_at-p0.result < room) × (c.place_at-p1.result < room) × (c.place_at-p2.result < room) × (c.place_at-p3.result < room)) = let guide = c.requires.0 in
    let k = c.args.k in (
      omega (arith, c.place_at-p0.ensures, guide.within k (omega (arith, c.requires.1))),
      omega (arith, c.place_at-p1.ensures, guide.within (k + 1) (omega (arith, c.requires.1))),
      omega (arith, c.place_at-p2.ensures, guide.within (k + 2) (omega (arith, c.requires.1))),
      omega (arith, c.place_at-p3.ensures, guide.within (k + 3) (omega (arith, c.requires.1))),
    ) in
    -- and there are as many of those after each value that is put
    let lengths : (let a = c.args in
    let x = a.values.now in
    let one = set a.out.now c.place_at-p0.result (get_or x (a.first + a.k) nan) in
    let two = set one c.place_at-p1.result (get_or x (a.first + (a.k + 1)) nan) in
    let three = set two c.place_at-p2.result (get_or x (a.first + (a.k + 2)) nan) in
    (length one ≡ length a.out.now) × (length two ≡ length a.out.now) × (length three ≡ length a.out.now)) = let a = c.args in
    let x = a.values.now in
    sets_long a.out.now c.place_at-p0.result c.place_at-p1.result c.place_at-p2.result (get_or x (a.first + a.k) nan) (get_or x (a.first + (a.k + 1)) nan) (get_or x (a.first + (a.k + 2)) nan) in
    omega (arith, inside, lengths)

pub bounds-out-p0 : goal.bounds-out-p0
bounds-out-p0 c =
    -- the places are those of the row's values
    let inside : (let room = length c.args.out.now in
    (c.place_at-p0.result < room) × (c.place_at-p1.result < room) × (c.place_at-p2.result < room) × (c.place_at-p3.result < room)) = let guide = c.requires.0 in
    let k = c.args.k in (
      omega (arith, c.place_at-p0.ensures, guide.within k (omega (arith, c.requires.1))),
      omega (arith, c.place_at-p1.ensures, guide.within (k + 1) (omega (arith, c.requires.1))),
      omega (arith, c.place_at-p2.ensures, guide.within (k + 2) (omega (arith, c.requires.1))),
      omega (arith, c.place_at-p3.ensures, guide.within (k + 3) (omega (arith, c.requires.1))),
    ) in
    -- and there are as many of those after each value that is put
    let lengths : (let a = c.args in
    let x = a.values.now in
    let one = set a.out.now c.place_at-p0.result (get_or x (a.first + a.k) nan) in
    let two = set one c.place_at-p1.result (get_or x (a.first + (a.k + 1)) nan) in
    let three = set two c.place_at-p2.result (get_or x (a.first + (a.k + 2)) nan) in
    (length one ≡ length a.out.now) × (length two ≡ length a.out.now) × (length three ≡ length a.out.now)) = let a = c.args in
    let x = a.values.now in
    sets_long a.out.now c.place_at-p0.result c.place_at-p1.result c.place_at-p2.result (get_or x (a.first + a.k) nan) (get_or x (a.first + (a.k + 1)) nan) (get_or x (a.first + (a.k + 2)) nan) in
    omega (arith, inside, lengths)

pub offset_bounds-out-p1 : goal.offset_bounds-out-p1
offset_bounds-out-p1 c =
    -- the places are those of the row's values
    let inside : (let room = length c.args.out.now in
    (c.place_at-p0.result < room) × (c.place_at-p1.result < room) × (c.place_at-p2.result < room) × (c.place_at-p3.result < room)) = let guide = c.requires.0 in
    let k = c.args.k in (
      omega (arith, c.place_at-p0.ensures, guide.within k (omega (arith, c.requires.1))),
      omega (arith, c.place_at-p1.ensures, guide.within (k + 1) (omega (arith, c.requires.1))),
      omega (arith, c.place_at-p2.ensures, guide.within (k + 2) (omega (arith, c.requires.1))),
      omega (arith, c.place_at-p3.ensures, guide.within (k + 3) (omega (arith, c.requires.1))),
    ) in
    -- and there are as many of those after each value that is put
    let lengths : (let a = c.args in
    let x = a.values.now in
    let one = set a.out.now c.place_at-p0.result (get_or x (a.first + a.k) nan) in
    let two = set one c.place_at-p1.result (get_or x (a.first + (a.k + 1)) nan) in
    let three = set two c.place_at-p2.result (get_or x (a.first + (a.k + 2)) nan) in
    (length one ≡ length a.out.now) × (length two ≡ length a.out.now) × (length three ≡ length a.out.now)) = let a = c.args in
    let x = a.values.now in
    sets_long a.out.now c.place_at-p0.result c.place_at-p1.result c.place_at-p2.result (get_or x (a.first + a.k) nan) (get_or x (a.first + (a.k + 1)) nan) (get_or x (a.first + (a.k + 2)) nan) in
    omega (arith, inside, lengths)

pub bounds-out-p1 : goal.bounds-out-p1
bounds-out-p1 c =
    -- the places are those of the row's values
    let inside : (let room = length c.args.out.now in
    (c.place_at-p0.result < room) × (c.place_at-p1.result < room) × (c.place_at-p2.result < room) × (c.place_at-p3.result < room)) = let guide = c.requires.0 in
    let k = c.args.k in (
      omega (arith, c.place_at-p0.ensures, guide.within k (omega (arith, c.requires.1))),
      omega (arith, c.place_at-p1.ensures, guide.within (k + 1) (omega (arith, c.requires.1))),
      omega (arith, c.place_at-p2.ensures, guide.within (k + 2) (omega (arith, c.requires.1))),
      omega (arith, c.place_at-p3.ensures, guide.within (k + 3) (omega (arith, c.requires.1))),
    ) in
    -- and there are as many of those after each value that is put
    let lengths : (let a = c.args in
    let x = a.values.now in
    let one = set a.out.now c.place_at-p0.result (get_or x (a.first + a.k) nan) in
    let two = set one c.place_at-p1.result (get_or x (a.first + (a.k + 1)) nan) in
    let three = set two c.place_at-p2.result (get_or x (a.first + (a.k + 2)) nan) in
    (length one ≡ length a.out.now) × (length two ≡ length a.out.now) × (length three ≡ length a.out.now)) = let a = c.args in
    let x = a.values.now in
    sets_long a.out.now c.place_at-p0.result c.place_at-p1.result c.place_at-p2.result (get_or x (a.first + a.k) nan) (get_or x (a.first + (a.k + 1)) nan) (get_or x (a.first + (a.k + 2)) nan) in
    omega (arith, inside, lengths)

pub offset_bounds-out-p2 : goal.offset_bounds-out-p2
offset_bounds-out-p2 c =
    -- the places are those of the row's values
    let inside : (let room = length c.args.out.now in
    (c.place_at-p0.result < room) × (c.place_at-p1.result < room) × (c.place_at-p2.result < room) × (c.place_at-p3.result < room)) = let guide = c.requires.0 in
    let k = c.args.k in (
      omega (arith, c.place_at-p0.ensures, guide.within k (omega (arith, c.requires.1))),
      omega (arith, c.place_at-p1.ensures, guide.within (k + 1) (omega (arith, c.requires.1))),
      omega (arith, c.place_at-p2.ensures, guide.within (k + 2) (omega (arith, c.requires.1))),
      omega (arith, c.place_at-p3.ensures, guide.within (k + 3) (omega (arith, c.requires.1))),
    ) in
    -- and there are as many of those after each value that is put
    let lengths : (let a = c.args in
    let x = a.values.now in
    let one = set a.out.now c.place_at-p0.result (get_or x (a.first + a.k) nan) in
    let two = set one c.place_at-p1.result (get_or x (a.first + (a.k + 1)) nan) in
    let three = set two c.place_at-p2.result (get_or x (a.first + (a.k + 2)) nan) in
    (length one ≡ length a.out.now) × (length two ≡ length a.out.now) × (length three ≡ length a.out.now)) = let a = c.args in
    let x = a.values.now in
    sets_long a.out.now c.place_at-p0.result c.place_at-p1.result c.place_at-p2.result (get_or x (a.first + a.k) nan) (get_or x (a.first + (a.k + 1)) nan) (get_or x (a.first + (a.k + 2)) nan) in
    omega (arith, inside, lengths)

pub bounds-out-p2 : goal.bounds-out-p2
bounds-out-p2 c =
    -- the places are those of the row's values
    let inside : (let room = length c.args.out.now in
    (c.place_at-p0.result < room) × (c.place_at-p1.result < room) × (c.place_at-p2.result < room) × (c.place_at-p3.result < room)) = let guide = c.requires.0 in
    let k = c.args.k in (
      omega (arith, c.place_at-p0.ensures, guide.within k (omega (arith, c.requires.1))),
      omega (arith, c.place_at-p1.ensures, guide.within (k + 1) (omega (arith, c.requires.1))),
      omega (arith, c.place_at-p2.ensures, guide.within (k + 2) (omega (arith, c.requires.1))),
      omega (arith, c.place_at-p3.ensures, guide.within (k + 3) (omega (arith, c.requires.1))),
    ) in
    -- and there are as many of those after each value that is put
    let lengths : (let a = c.args in
    let x = a.values.now in
    let one = set a.out.now c.place_at-p0.result (get_or x (a.first + a.k) nan) in
    let two = set one c.place_at-p1.result (get_or x (a.first + (a.k + 1)) nan) in
    let three = set two c.place_at-p2.result (get_or x (a.first + (a.k + 2)) nan) in
    (length one ≡ length a.out.now) × (length two ≡ length a.out.now) × (length three ≡ length a.out.now)) = let a = c.args in
    let x = a.values.now in
    sets_long a.out.now c.place_at-p0.result c.place_at-p1.result c.place_at-p2.result (get_or x (a.first + a.k) nan) (get_or x (a.first + (a.k + 1)) nan) (get_or x (a.first + (a.k + 2)) nan) in
    omega (arith, inside, lengths)

pub offset_bounds-out-p3 : goal.offset_bounds-out-p3
offset_bounds-out-p3 c =
    -- the places are those of the row's values
    let inside : (let room = length c.args.out.now in
    (c.place_at-p0.result < room) × (c.place_at-p1.result < room) × (c.place_at-p2.result < room) × (c.place_at-p3.result < room)) = let guide = c.requires.0 in
    let k = c.args.k in (
      omega (arith, c.place_at-p0.ensures, guide.within k (omega (arith, c.requires.1))),
      omega (arith, c.place_at-p1.ensures, guide.within (k + 1) (omega (arith, c.requires.1))),
      omega (arith, c.place_at-p2.ensures, guide.within (k + 2) (omega (arith, c.requires.1))),
      omega (arith, c.place_at-p3.ensures, guide.within (k + 3) (omega (arith, c.requires.1))),
    ) in
    -- and there are as many of those after each value that is put
    let lengths : (let a = c.args in
    let x = a.values.now in
    let one = set a.out.now c.place_at-p0.result (get_or x (a.first + a.k) nan) in
    let two = set one c.place_at-p1.result (get_or x (a.first + (a.k + 1)) nan) in
    let three = set two c.place_at-p2.result (get_or x (a.first + (a.k + 2)) nan) in
    (length one ≡ length a.out.now) × (length two ≡ length a.out.now) × (length three ≡ length a.out.now)) = let a = c.args in
    let x = a.values.now in
    sets_long a.out.now c.place_at-p0.result c.place_at-p1.result c.place_at-p2.result (get_or x (a.first + a.k) nan) (get_or x (a.first + (a.k + 1)) nan) (get_or x (a.first + (a.k + 2)) nan) in
    omega (arith, inside, lengths)

pub bounds-out-p3 : goal.bounds-out-p3
bounds-out-p3 c =
    -- the places are those of the row's values
    let inside : (let room = length c.args.out.now in
    (c.place_at-p0.result < room) × (c.place_at-p1.result < room) × (c.place_at-p2.result < room) × (c.place_at-p3.result < room)) = let guide = c.requires.0 in
    let k = c.args.k in (
      omega (arith, c.place_at-p0.ensures, guide.within k (omega (arith, c.requires.1))),
      omega (arith, c.place_at-p1.ensures, guide.within (k + 1) (omega (arith, c.requires.1))),
      omega (arith, c.place_at-p2.ensures, guide.within (k + 2) (omega (arith, c.requires.1))),
      omega (arith, c.place_at-p3.ensures, guide.within (k + 3) (omega (arith, c.requires.1))),
    ) in
    -- and there are as many of those after each value that is put
    let lengths : (let a = c.args in
    let x = a.values.now in
    let one = set a.out.now c.place_at-p0.result (get_or x (a.first + a.k) nan) in
    let two = set one c.place_at-p1.result (get_or x (a.first + (a.k + 1)) nan) in
    let three = set two c.place_at-p2.result (get_or x (a.first + (a.k + 2)) nan) in
    (length one ≡ length a.out.now) × (length two ≡ length a.out.now) × (length three ≡ length a.out.now)) = let a = c.args in
    let x = a.values.now in
    sets_long a.out.now c.place_at-p0.result c.place_at-p1.result c.place_at-p2.result (get_or x (a.first + a.k) nan) (get_or x (a.first + (a.k + 1)) nan) (get_or x (a.first + (a.k + 2)) nan) in
    omega (arith, inside, lengths)

pub returns : goal.returns
returns c =
    let a = c.args in
    put_four_more a.from.now a.first a.values.now a.marks.now a.k _ _ _ _ a.out.now c.place_at-p0.ensures c.place_at-p1.ensures c.place_at-p2.ensures c.place_at-p3.ensures

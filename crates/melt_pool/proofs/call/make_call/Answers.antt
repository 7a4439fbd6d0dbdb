use Rattle.std.proofs.Common.{◌+◌, ◌*◌, rules, sym, subst, refl}
use Rattle.std.specs.Prelude.{Ok}
use Rattle.melt_model.specs.declared.operations.Op.{Op}
use Rattle.melt_model.specs.declared.operations.Op.TheVariants.{Copy, Drop, Get, GStore, Put, Same, Store}
use Rattle.melt_pool.specs.Calling.{IsCalled}
use Rattle.melt_pool.proofs.Called.{global_called, held_keeps, local_called, made_called, plain_called}
use Rattle.melt_pool.proofs.Called.{plain_keeps, slot_called}
use Rattle.melt_pool.proofs.call.make_call.Goals as goal

pub returns-in-New-clause-called : goal.returns-in-New-clause-called
returns-in-New-clause-called g c =
    let words = c.args.epoch.now.words in
    let heap = c.args.epoch.now.heap in
    let finish = c.args.epoch.now.end in
    let read = g.R.RecordReader in
    subst
    (λ (o : Op). IsCalled read.image read.faults words.start.began.told heap.scions finish c.args.m.now c.make.new.m o
    c.make.result) (sym c.in-New.is)
    (made_called read.image read.faults words.start.began.told heap.scions finish c.args.m.now c.make.new.m c.in-New.dst
    (record { refs = c.in-New.refs; nums = c.in-New.nums }) c.make.result (search rules) c.make.ensures.made)

pub returns-in-Load-clause-called : goal.returns-in-Load-clause-called
returns-in-Load-clause-called g c =
    let words = c.args.epoch.now.words in
    let heap = c.args.epoch.now.heap in
    let finish = c.args.epoch.now.end in
    let read = g.R.RecordReader in
    subst
    (λ (o : Op). IsCalled read.image read.faults words.start.began.told heap.scions finish c.args.m.now c.load.new.m o
    c.load.result) (sym c.in-Load.is)
    (slot_called read.image read.faults words.start.began.told heap.scions finish c.args.m.now c.load.new.m
    c.in-Load.dst c.in-Load.src c.in-Load.i (2 * words.start.began.forwards + 134) c.load.result c.load.ensures.loaded)

pub returns-in-Store-clause-called : goal.returns-in-Store-clause-called
returns-in-Store-clause-called g c =
    let words = c.args.epoch.now.words in
    let heap = c.args.epoch.now.heap in
    let finish = c.args.epoch.now.end in
    let read = g.R.RecordReader in
    subst
    (λ (o : Op). IsCalled read.image read.faults words.start.began.told heap.scions finish c.args.m.now c.store.new.m o
    c.store.result) (sym c.in-Store.is)
    (plain_called read.image read.faults words.start.began.told heap.scions finish c.args.m.now c.store.new.m
    (Store c.in-Store.obj c.in-Store.i c.in-Store.src) 3 c.store.result c.store.ensures.plain)

pub returns-in-Get-clause-called : goal.returns-in-Get-clause-called
returns-in-Get-clause-called g c =
    let words = c.args.epoch.now.words in
    let heap = c.args.epoch.now.heap in
    let finish = c.args.epoch.now.end in
    let read = g.R.RecordReader in
    subst
    (λ (o : Op). IsCalled read.image read.faults words.start.began.told heap.scions finish c.args.m.now c.get.new.m o
    c.get.result) (sym c.in-Get.is)
    (plain_called read.image read.faults words.start.began.told heap.scions finish c.args.m.now c.get.new.m
    (Get c.in-Get.src c.in-Get.j) 3 c.get.result c.get.ensures.plain)

pub returns-in-Put-clause-called : goal.returns-in-Put-clause-called
returns-in-Put-clause-called g c =
    let words = c.args.epoch.now.words in
    let heap = c.args.epoch.now.heap in
    let finish = c.args.epoch.now.end in
    let read = g.R.RecordReader in
    subst
    (λ (o : Op). IsCalled read.image read.faults words.start.began.told heap.scions finish c.args.m.now c.put.new.m o
    c.put.result) (sym c.in-Put.is)
    (plain_called read.image read.faults words.start.began.told heap.scions finish c.args.m.now c.put.new.m
    (Put c.in-Put.obj c.in-Put.j c.in-Put.v) 3 c.put.result c.put.ensures.plain)

pub returns-in-GStore-clause-called : goal.returns-in-GStore-clause-called
returns-in-GStore-clause-called g c =
    let words = c.args.epoch.now.words in
    let heap = c.args.epoch.now.heap in
    let finish = c.args.epoch.now.end in
    let read = g.R.RecordReader in
    subst
    (λ (o : Op). IsCalled read.image read.faults words.start.began.told heap.scions finish c.args.m.now c.gstore.new.m o
    c.gstore.result) (sym c.in-GStore.is)
    (plain_called read.image read.faults words.start.began.told heap.scions finish c.args.m.now c.gstore.new.m
    (GStore c.in-GStore.g c.in-GStore.src) 2 c.gstore.result c.gstore.ensures.plain)

pub returns-in-GLoad-clause-called : goal.returns-in-GLoad-clause-called
returns-in-GLoad-clause-called g c =
    let words = c.args.epoch.now.words in
    let heap = c.args.epoch.now.heap in
    let finish = c.args.epoch.now.end in
    let read = g.R.RecordReader in
    subst
    (λ (o : Op). IsCalled read.image read.faults words.start.began.told heap.scions finish c.args.m.now c.gload.new.m o
    c.gload.result) (sym c.in-GLoad.is)
    (global_called read.image read.faults words.start.began.told heap.scions finish c.args.m.now c.gload.new.m
    c.in-GLoad.dst c.in-GLoad.g (2 * words.start.began.forwards + 133) c.gload.result c.gload.ensures.loaded)

pub returns-in-Same-clause-called : goal.returns-in-Same-clause-called
returns-in-Same-clause-called g c =
    let words = c.args.epoch.now.words in
    let heap = c.args.epoch.now.heap in
    let finish = c.args.epoch.now.end in
    let read = g.R.RecordReader in
    subst
    (λ (o : Op). IsCalled read.image read.faults words.start.began.told heap.scions finish c.args.m.now c.args.m.now o
    (Ok c.same.result)) (sym c.in-Same.is)
    (local_called read.image read.faults words.start.began.told heap.scions finish c.args.m.now c.args.m.now words
    (Same c.in-Same.a c.in-Same.b) c.same.result c.requires.seated refl
    (λ h tells. c.same.ensures.answers words h c.requires.seated tells))

pub returns-in-Copy-clause-called : goal.returns-in-Copy-clause-called
returns-in-Copy-clause-called g c =
    let words = c.args.epoch.now.words in
    let heap = c.args.epoch.now.heap in
    let finish = c.args.epoch.now.end in
    let read = g.R.RecordReader in
    subst
    (λ (o : Op). IsCalled read.image read.faults words.start.began.told heap.scions finish c.args.m.now
    c.copy_reg.new.self o (Ok c.copy_reg.result)) (sym c.in-Copy.is)
    (local_called read.image read.faults words.start.began.told heap.scions finish c.args.m.now c.copy_reg.new.self
    words (Copy c.in-Copy.dst c.in-Copy.src) c.copy_reg.result c.requires.seated c.copy_reg.ensures.seat
    (λ h tells. c.copy_reg.ensures.answers h))

pub returns-in-Drop-clause-called : goal.returns-in-Drop-clause-called
returns-in-Drop-clause-called g c =
    let words = c.args.epoch.now.words in
    let heap = c.args.epoch.now.heap in
    let finish = c.args.epoch.now.end in
    let read = g.R.RecordReader in
    subst
    (λ (o : Op). IsCalled read.image read.faults words.start.began.told heap.scions finish c.args.m.now
    c.drop_reg.new.self o (Ok c.drop_reg.result)) (sym c.in-Drop.is)
    (local_called read.image read.faults words.start.began.told heap.scions finish c.args.m.now c.drop_reg.new.self
    words (Drop c.in-Drop.r) c.drop_reg.result c.requires.seated c.drop_reg.ensures.seat
    (λ h tells. c.drop_reg.ensures.answers h))

pub returns-in-New-clause-keeps : goal.returns-in-New-clause-keeps
returns-in-New-clause-keeps g c =
    held_keeps c.args.m.now c.make.new.m c.in-New.dst c.make.result c.make.ensures.holds

pub returns-in-Load-clause-keeps : goal.returns-in-Load-clause-keeps
returns-in-Load-clause-keeps g c =
    held_keeps c.args.m.now c.load.new.m c.in-Load.dst c.load.result c.load.ensures.holds

pub returns-in-GLoad-clause-keeps : goal.returns-in-GLoad-clause-keeps
returns-in-GLoad-clause-keeps g c =
    held_keeps c.args.m.now c.gload.new.m c.in-GLoad.dst c.gload.result c.gload.ensures.holds

pub returns-in-Store-clause-keeps : goal.returns-in-Store-clause-keeps
returns-in-Store-clause-keeps g c =
    plain_keeps c.args.m.now c.store.new.m (Store c.in-Store.obj c.in-Store.i c.in-Store.src) 3 c.store.result
    c.store.ensures.plain

pub returns-in-Get-clause-keeps : goal.returns-in-Get-clause-keeps
returns-in-Get-clause-keeps g c =
    plain_keeps c.args.m.now c.get.new.m (Get c.in-Get.src c.in-Get.j) 3 c.get.result c.get.ensures.plain

pub returns-in-Put-clause-keeps : goal.returns-in-Put-clause-keeps
returns-in-Put-clause-keeps g c =
    plain_keeps c.args.m.now c.put.new.m (Put c.in-Put.obj c.in-Put.j c.in-Put.v) 3 c.put.result c.put.ensures.plain

pub returns-in-GStore-clause-keeps : goal.returns-in-GStore-clause-keeps
returns-in-GStore-clause-keeps g c =
    plain_keeps c.args.m.now c.gstore.new.m (GStore c.in-GStore.g c.in-GStore.src) 2 c.gstore.result
    c.gstore.ensures.plain

-- What is said of a collection after an epoch that ended is said of the view in which it ended.
use Rattle.std.proofs.Common.{◌≡◌, ℕ, ◌≤◌, zero, suc, List, get_or, length, refl, sym, ◌∙◌, ap, subst, Bool}
use Rattle.std.proofs.Common.{false, inl, inr, true}
use Rattle.std.specs.Prelude.{Option, Some}
use Rattle.melt_model.specs.Alive.{Alive, Held, words_of, CostsSum}
use Rattle.melt_model.specs.declared.history.Entry.{Entry}
use Rattle.melt_model.specs.declared.history.Value.{Value}
use Rattle.melt_model.specs.declared.reports.Journal.{Journal}
use Rattle.melt_model.specs.declared.reports.Phase.{Phase}
use Rattle.melt_model.specs.declared.reports.Phase.TheVariants.{Inactive, Mark, Move}
use Rattle.melt_disk.specs.declared.space.DiskFull as disk_full
use Rattle.melt_space.specs.Space.{SpaceWords, word_at}
use Rattle.melt_scion.specs.Heaps.{OnDisk, register_in}
use Rattle.melt_scion.specs.Placed.{IsNamed}
use Rattle.melt_scion.specs.declared.heap.Names as name_table
use Rattle.melt_scion.specs.declared.registers.Registers.{Registers}
use Rattle.melt_move.specs.Planned.{plan_after}
use Rattle.melt_core.specs.Epochs.{HasFinished}
use Rattle.melt_core.specs.StaleBits.{BitIs, sight}
use Rattle.melt_core.specs.Views.{View, held_values, maps_of, registers_in, value, values_of, InUse, IsQuiet}
use Rattle.melt_core.specs.Views.{Standing}
use Rattle.melt_safepoint.specs.Bits.{BitsAfter, BitsAreSet, IsOnDisk, TakesAway}
use Rattle.melt_safepoint.specs.Collections.{CollectedOver, CollectsCore, FullOver, Gathers, IsFullCore, AllMarked}
use Rattle.melt_safepoint.specs.Collections.{MayCollect}
use Rattle.melt_safepoint.specs.Shown.{Shown}
use Rattle.melt_safepoint.specs.Tables.{Renewed}
use Rattle.melt_safepoint.specs.declared.collector.Collector.{Collector}
use Rattle.melt_safepoint.specs.declared.ending.Left.{Left}
use Rattle.melt_safepoint.proofs.Gathering.{same_value}

-- a word is the same where the words are
pub same_word : (space after : SpaceWords) (k : ℕ) → after.list ≡ space.list → word_at after k ≡ word_at space k
same_word space after zero same = refl
same_word space after (suc k) same = ap (λ (words : List ℕ). get_or words k 0) same

-- an epoch that ends changes no stale bit and no register
pub finished_marked : (v x : View) → HasFinished v x → AllMarked v → AllMarked x
finished_marked v x finished marked a header named starts lone =
    marked a header
    (subst (λ (names : Option name_table.Names). IsNamed (maps_of names) a) finished.names named)
    (record {
      in_range = starts.in_range;
      word = sym (same_word v.space x.space a finished.words) ∙ starts.word;
    })
    (λ holds. lone (record {
      thread = holds.thread;
      register = holds.register;
      holds = ap (λ (held : List Registers). register_in held holds.thread holds.register) finished.held ∙ holds.holds;
    }))

-- where words and names are the same, so are stale bits
same_bit : (v x : View) → x.space.list ≡ v.space.list → x.names ≡ v.names → (n : ℕ) (stale : Bool)
    → BitIs (sight x) n stale → BitIs (sight v) n stale
same_bit v x words names n stale bit = record {
  address = bit.address;
  named = subst (λ (all : Option name_table.Names). (maps_of all).address bit.address ≡ Some n) names bit.named;
  shape = bit.shape;
  small = bit.small;
  word = sym (same_word v.space x.space bit.address words) ∙ bit.word;
}

-- an epoch that ends changes no value of a register
pub finished_values : (v x : View) → HasFinished v x → (t : ℕ) → values_of x t ≡ values_of v t
finished_values v x finished t =
    ap (λ (names : Option name_table.Names). held_values names (registers_in x.held t)) finished.names
    ∙ ap (λ (held : List Registers). held_values v.names (registers_in held t)) finished.held

-- a journal has the words of the same history and registers
gathers_same : (v w : View) (entry : Journal) → w.log ≡ v.log → value w ≡ value v → Gathers w entry → Gathers v entry
gathers_same v w entry log same is = record {
  holds =
      subst (λ (h : List Entry). CostsSum (words_of h) (Held (value v)) entry.held) log
      (subst (λ (f : ℕ → ℕ → Value). CostsSum (words_of w.log) (Held f) entry.held) same is.holds);
  alive = is.alive;
  reach =
      subst (λ (h : List Entry). CostsSum (words_of h) (Alive h (value v)) is.alive) log
      (subst (λ (f : ℕ → ℕ → Value). CostsSum (words_of w.log) (Alive w.log f) is.alive) same is.reach);
  fits = is.fits;
}

-- bits that are set by what registers hold
finished_set : (v x w : View) → value x ≡ value v → BitsAreSet x w → BitsAreSet v w
finished_set v x w same bits = record {
  stale = λ n bit held. bits.stale n bit (subst (λ (f : ℕ → ℕ → Value). Held f n) (sym same) held);
  fresh = λ n bit. subst (λ (f : ℕ → ℕ → Value). Held f n) same (bits.fresh n bit);
}

-- what a collection after an epoch leaves of stale bits, it leaves of those that the epoch left
finished_bits : (phase : Phase) (v x w : View) → HasFinished v x → value x ≡ value v → BitsAfter phase x w
    → BitsAfter phase v w
finished_bits Inactive v x w finished same bits = record {
  stale = λ n bit. same_bit v x finished.words finished.names n true (bits.stale n bit);
  fresh = λ n bit. same_bit v x finished.words finished.names n false (bits.fresh n bit);
}
finished_bits Mark v x w finished same bits = finished_set v x w same bits
finished_bits Move v x w finished same bits = finished_set v x w same bits

-- and it takes away the same objects
finished_takes : (phase : Phase) (v x w : View) (entry : Journal) → HasFinished v x → value x ≡ value v
    → TakesAway phase x w entry → TakesAway phase v w entry
finished_takes phase v x w entry finished same takes = record {
  taken = takes.taken;
  once = takes.once;
  counts = takes.counts;
  only_move = takes.only_move;
  each = λ n has. let is = takes.each n has in record {
    stale = same_bit v x finished.words finished.names n true is.stale;
    unheld = λ held. is.unheld (subst (λ (f : ℕ → ℕ → Value). Held f n) (sym same) held);
    gone = is.gone;
  };
  leaves = λ n move in_use bit.
      subst (λ (f : ℕ → ℕ → Value). Held f n) same
      (takes.leaves n move in_use (same_bit x v (sym finished.words) (sym finished.names) n true bit));
  others = λ n in_use alive.
      takes.others n
      (subst (λ (all : Option name_table.Names). InUse (maps_of all) n) (sym finished.names) in_use)
      (subst (λ (h : List Entry). Alive h (value x) n) (sym finished.log)
      (subst (λ (f : ℕ → ℕ → Value). Alive v.log f n) (sym same) alive));
  none_new = λ n in_use.
      subst (λ (all : Option name_table.Names). InUse (maps_of all) n) finished.names (takes.none_new n in_use);
  away = λ n there. elim (takes.away n there) [
    | inl old ↦ inl (subst (λ (all : Option name_table.Names). IsOnDisk (maps_of all) n) finished.names old)
    | inr taken ↦ inr taken
  ];
}

module _ (v x : View) (finished : HasFinished v x)
    (rests : (told : Bool) (disk : OnDisk) → Standing told disk v → Standing told disk x) where
  -- what may be collected may be so after the epoch
  pub finished_may : (finish : ℕ) → IsQuiet x → MayCollect finish v → MayCollect finish x
  finished_may finish quiet may = record {
    disk = may.disk;
    ends = may.ends;
    stands = rests false may.disk may.stands;
    quiet = quiet;
  }

  -- what begins anew after it
  finished_renewed : (told : Bool) (disk : OnDisk) (w : View) → Renewed told disk x w → Renewed told disk v w
  finished_renewed told disk w renewed = record {
    stands = renewed.stands;
    quiet = renewed.quiet;
    globals = renewed.globals ∙ ap length finished.globals;
    words = renewed.words ∙ ap length finished.words;
    forwards = renewed.forwards ∙ ap length finished.forward;
    threads = renewed.threads ∙ ap length finished.held;
    capacity = renewed.capacity ∙ finished.capacity;
    history = renewed.history ∙ finished.log;
    values = λ t. renewed.values t ∙ finished_values v x finished t;
  }

  -- a collection of the phase
  pub finished_collects : (phase : Phase) (shown later : Shown) (w : View) (old new : Collector)
      → CollectsCore phase shown later x w old new → CollectsCore phase shown later v w old new
  finished_collects phase shown later w old new c =
      let words : length x.space.list ≡ length v.space.list = ap length finished.words in
      let same : value x ≡ value v = same_value v x (finished_values v x finished) in
      record {
        entry = c.entry;
        journal = c.journal;
        plan = c.plan ∙ ap (plan_after old.plan phase c.entry.live) words;
        of_phase = c.of_phase;
        held_within = c.held_within;
        live = c.live;
        within = subst (λ (n : ℕ). c.entry.live ≤ n) words c.within;
        stop = c.stop;
        none_forwarded = c.none_forwarded;
        quiet = c.quiet;
        end = c.end;
        grows = c.grows;
        fits = c.fits;
        stays = c.stays;
        limit = c.limit;
        each = λ told disk under stands.
            let over : CollectedOver told phase later disk.free_homes x w c.entry =
            c.each told disk under (rests told disk stands) in
            record {
              disk = over.disk;
              under = over.under;
              same_free = over.same_free;
              renewed = finished_renewed told over.disk w over.renewed;
              gathers = λ tells. gathers_same v x c.entry finished.log same (over.gathers tells);
              bits = λ tells. finished_bits phase v x w finished same (over.bits tells);
              takes = λ tells. finished_takes phase v x w c.entry finished same (over.takes tells);
              marked = over.marked;
              tight = λ tells move marked. over.tight tells move (finished_marked v x finished marked);
            };
      }

  -- and one that the disk had no room for
  pub finished_full : (phase : Phase) (shown later : Shown) (left : Left) (full : disk_full.DiskFull)
      → IsFullCore phase shown later x left full → IsFullCore phase shown later v left full
  finished_full phase shown later left full is = record {
    of_phase = is.of_phase;
    end_is = is.end_is;
    limit_is = is.limit_is;
    above = is.above;
    end_stays = is.end_stays;
    limit_stays = is.limit_stays;
    heap = is.heap;
    there = is.there;
    w = is.w;
    log = is.log;
    each = λ told disk under stands.
        let over : FullOver told later x is.w is.heap full.need = is.each told disk under (rests told disk stands) in
        record {
          disk = over.disk;
          under = over.under;
          renewed = finished_renewed told over.disk is.w over.renewed;
          shows = over.shows;
          needs = over.needs;
        };
  }

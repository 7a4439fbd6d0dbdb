-- How a seat gives the next thread a seat of its own, and how it takes in another seat.
use Rattle.std.specs.Prelude.{◌+◌, ◌-◌, ◌||◌, false, List, [], ◌∷◌, ◌++◌, length, nat_lt, if◌then◌else◌, None}
use Rattle.melt_model.specs.declared.history.Entry.{Entry}
use Rattle.melt_scion.specs.GhostMaps.{no_pairs}
use Rattle.melt_scion.specs.Scions.{empty_table}
use Rattle.melt_rule.specs.declared.began.Began.{Began}
use Rattle.melt_rule.specs.declared.view.Away.{Away}
use Rattle.melt_rule.specs.declared.view.View.{View}

abbrev pub first_away : List Away → Away
first_away [] = record { thread = 0; seen = [] }
first_away (a ∷ away) = a

abbrev pub others_away : List Away → List Away
others_away [] = []
others_away (a ∷ away) = away

-- the view of a seat that gave the next thread that is away a seat
abbrev pub giver_view : View → View
giver_view v = record v { parts = v.parts - 1; away = others_away v.away }

-- And the view of that seat. It knows of addresses what the giver knows, and nothing was done by it.
abbrev pub given_view : View → View
given_view v = record {
  parts = 1;
  thread = (first_away v.away).thread;
  began = v.began;
  seen = (first_away v.away).seen;
  mine = (first_away v.away).seen;
  known = v.known;
  doing = None;
  rest = [];
  claimed = 0;
  over = 0;
  won = 0;
  steps = 0;
  away = [];
  stopped = false;
  asked = false;
  spaced = false;
  forwarded = false;
}

-- the second history where it is longer, else the first
abbrev pub longer : List Entry → List Entry → List Entry
longer g h = if nat_lt (length g) (length h) then h else g

-- The view of a seat that took in another: it speaks for the threads of both, and all counts and causes are those of
-- both. Its own call goes on.
abbrev pub joined_view : View → View → View
joined_view v w = record v {
  parts = v.parts + w.parts;
  seen = longer v.seen w.seen;
  known = v.known ++ w.known;
  claimed = v.claimed + w.claimed;
  over = v.over + w.over;
  won = v.won + w.won;
  away = v.away ++ record { thread = w.thread; seen = w.mine } ∷ w.away;
  stopped = v.stopped || w.stopped;
  asked = v.asked || w.asked;
  spaced = v.spaced || w.spaced;
  forwarded = v.forwarded || w.forwarded;
}

abbrev pub no_beginning : Began
no_beginning = record {
  history = [];
  threads = [];
  told = false;
  size = 0;
  globals = 0;
  forwards = 0;
  scions = empty_table 0;
  end = 0;
  homes = [];
  free_homes = [];
  image = [];
  free = 0;
  words = [];
  maps = no_pairs;
}

-- what is left of a view that was taken in
abbrev pub spent_view : View
spent_view = record {
  parts = 0;
  thread = 0;
  began = no_beginning;
  seen = [];
  mine = [];
  known = [];
  doing = None;
  rest = [];
  claimed = 0;
  over = 0;
  won = 0;
  steps = 0;
  away = [];
  stopped = false;
  asked = false;
  spaced = false;
  forwarded = false;
}

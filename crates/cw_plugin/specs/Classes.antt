-- The connector classes: what each is called, which properties it requires, and what its tasks share out. The
-- FileStream classes are Kafka's own and have Kafka's names; the other two are this project's.
use Rattle.std.specs.Prelude.{ℕ, Bool, true, false, List, [], ◌∷◌, Option, Some, None, codes, bytes_eq, if◌then◌else◌}
use Rattle.cw_plugin.specs.declared.class.Class.{Class}
use Rattle.cw_plugin.specs.declared.class.Class.TheVariants.{FileStreamSource, FileSetSource, SequenceSource}
use Rattle.cw_plugin.specs.declared.class.Class.TheVariants.{FileStreamSink}
use Rattle.cw_plugin.specs.declared.class.Field.{Field}
use Rattle.cw_plugin.specs.declared.class.Field.TheVariants.{Feed, Feeds, Sequences, Count, Topic, Outlet, Topics}
use Rattle.cw_plugin.specs.declared.class.TaskField.{TaskField}
use Rattle.cw_plugin.specs.declared.class.TaskField.TheVariants.{TaskClass, BatchSize, Whole, Group}

-- a row of the table of classes
pub record ClassRow : Type 0 where
  -- the short name, and what stands for it besides
  pub name : List ℕ
  pub simple : Option (List ℕ)
  pub full : Option (List ℕ)
  -- what its tasks are called
  pub task : List ℕ
  -- whether it is a source, which takes a batch size
  pub is_source : Bool
  -- the required properties, in the order of their tests
  pub fields : List Field
  -- the list that its tasks share out
  pub shared : Option Field
  -- the properties of a task, their keys rising
  pub task_fields : List TaskField

-- the table
abbrev pub row_of : Class → ClassRow
row_of FileStreamSource = record {
  name = codes "FileStreamSource";
  simple = Some (codes "FileStreamSourceConnector");
  full = Some (codes "org.apache.kafka.connect.file.FileStreamSourceConnector");
  task = codes "FileStreamSourceTask";
  is_source = true;
  fields = Feed ∷ Topic ∷ [];
  shared = None;
  task_fields = BatchSize ∷ Whole Feed ∷ TaskClass ∷ Whole Topic ∷ [];
}
row_of FileSetSource = record {
  name = codes "FileSetSource";
  simple = None;
  full = None;
  task = codes "FileSetSourceTask";
  is_source = true;
  fields = Feeds ∷ Topic ∷ [];
  shared = Some Feeds;
  task_fields = BatchSize ∷ Group Feeds ∷ TaskClass ∷ Whole Topic ∷ [];
}
row_of SequenceSource = record {
  name = codes "SequenceSource";
  simple = None;
  full = None;
  task = codes "SequenceSourceTask";
  is_source = true;
  fields = Sequences ∷ Count ∷ Topic ∷ [];
  shared = Some Sequences;
  task_fields = BatchSize ∷ Whole Count ∷ Group Sequences ∷ TaskClass ∷ Whole Topic ∷ [];
}
row_of FileStreamSink = record {
  name = codes "FileStreamSink";
  simple = Some (codes "FileStreamSinkConnector");
  full = Some (codes "org.apache.kafka.connect.file.FileStreamSinkConnector");
  task = codes "FileStreamSinkTask";
  is_source = false;
  fields = Outlet ∷ Topics ∷ [];
  shared = Some Topics;
  task_fields = Whole Outlet ∷ TaskClass ∷ Group Topics ∷ [];
}

-- the classes
abbrev pub classes : List Class
classes = FileStreamSource ∷ FileSetSource ∷ SequenceSource ∷ FileStreamSink ∷ []

-- whether a text is a name that may be lacking
abbrev pub is_text : Option (List ℕ) → List ℕ → Bool
is_text None text = false
is_text (Some name) text = bytes_eq name text

-- whether a class is called so
abbrev pub is_called : ClassRow → List ℕ → Bool
is_called row text =
    if bytes_eq row.name text then true else
    if is_text row.simple text then true else is_text row.full text

-- the first class that is called so
abbrev pub class_among : List Class → List ℕ → Option Class
class_among [] text = None
class_among (class ∷ more) text = if is_called (row_of class) text then Some class else class_among more text

-- the class that is called so
abbrev pub class_of : List ℕ → Option Class
class_of text = class_among classes text

-- the first class whose tasks are called so
abbrev pub task_class_among : List Class → List ℕ → Option Class
task_class_among [] text = None
task_class_among (class ∷ more) text =
    if bytes_eq (row_of class).task text then Some class else task_class_among more text

-- the class whose tasks are called so
abbrev pub task_class_of : List ℕ → Option Class
task_class_of text = task_class_among classes text

-- the key of a required property
abbrev pub key_of : Field → List ℕ
key_of Feed = codes "file"
key_of Feeds = codes "files"
key_of Sequences = codes "partitions"
key_of Count = codes "count"
key_of Topic = codes "topic"
key_of Outlet = codes "file"
key_of Topics = codes "topics"

-- whether its value is a list
abbrev pub is_list : Field → Bool
is_list Feed = false
is_list Feeds = true
is_list Sequences = false
is_list Count = false
is_list Topic = false
is_list Outlet = false
is_list Topics = true

-- the key of a task's property
abbrev pub task_key : TaskField → List ℕ
task_key TaskClass = codes "task.class"
task_key BatchSize = codes "batch.size"
task_key (Whole field) = key_of field
task_key (Group field) = key_of field

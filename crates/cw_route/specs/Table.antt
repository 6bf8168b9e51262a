-- The paths of Connect's REST API, as patterns with a parameter for the name of a connector and one for the number of
-- a task.
use Rattle.std.specs.Prelude.{ℕ, List, [], ◌∷◌, ◌++◌, codes}
use Rattle.matchit.specs.Rows.{RowsOf, param_token}
use Rattle.matchit.specs.Router.{RouteOf}
use Rattle.cw_route.specs.declared.page.Page.{Page}
use Rattle.cw_route.specs.declared.page.Page.TheVariants.{Connectors, Plugins, Connector, Config, Offsets, Pause}
use Rattle.cw_route.specs.declared.page.Page.TheVariants.{Resume, Stop, Restart, Status, Tasks, TaskRestart, TaskStatus}

-- the table, in the order in which a router keeps it
abbrev pub pages : List Page
pages = Plugins ∷ Config ∷ Offsets ∷ Pause ∷ Restart ∷ Resume ∷ Status ∷ Stop ∷ TaskRestart ∷ TaskStatus ∷ Tasks ∷
    Connector ∷ Connectors ∷ []

-- the pattern of a page, as text
abbrev pub page_text : Page → List ℕ
page_text Connectors = codes "/connectors"
page_text Plugins = codes "/connector-plugins"
page_text Connector = codes "/connectors/{name}"
page_text Config = codes "/connectors/{name}/config"
page_text Offsets = codes "/connectors/{name}/offsets"
page_text Pause = codes "/connectors/{name}/pause"
page_text Resume = codes "/connectors/{name}/resume"
page_text Stop = codes "/connectors/{name}/stop"
page_text Restart = codes "/connectors/{name}/restart"
page_text Status = codes "/connectors/{name}/status"
page_text Tasks = codes "/connectors/{name}/tasks"
page_text TaskRestart = codes "/connectors/{name}/tasks/{task}/restart"
page_text TaskStatus = codes "/connectors/{name}/tasks/{task}/status"

-- the path of a page, with a name and a task's number in it
abbrev pub page_path : Page → List ℕ → List ℕ → List ℕ
page_path Connectors name task = codes "/connectors"
page_path Plugins name task = codes "/connector-plugins"
page_path Connector name task = codes "/connectors/" ++ name
page_path Config name task = codes "/connectors/" ++ name ++ codes "/config"
page_path Offsets name task = codes "/connectors/" ++ name ++ codes "/offsets"
page_path Pause name task = codes "/connectors/" ++ name ++ codes "/pause"
page_path Resume name task = codes "/connectors/" ++ name ++ codes "/resume"
page_path Stop name task = codes "/connectors/" ++ name ++ codes "/stop"
page_path Restart name task = codes "/connectors/" ++ name ++ codes "/restart"
page_path Status name task = codes "/connectors/" ++ name ++ codes "/status"
page_path Tasks name task = codes "/connectors/" ++ name ++ codes "/tasks"
page_path TaskRestart name task = codes "/connectors/" ++ (name ++ (codes "/tasks/" ++ (task ++ codes "/restart")))
page_path TaskStatus name task = codes "/connectors/" ++ (name ++ (codes "/tasks/" ++ (task ++ codes "/status")))

-- the parameters of a page, each with what stands in its place
abbrev pub page_params : Page → List ℕ → List ℕ → List (List ℕ × List ℕ)
page_params Connectors name task = []
page_params Plugins name task = []
page_params Connector name task = (codes "name", name) ∷ []
page_params Config name task = (codes "name", name) ∷ []
page_params Offsets name task = (codes "name", name) ∷ []
page_params Pause name task = (codes "name", name) ∷ []
page_params Resume name task = (codes "name", name) ∷ []
page_params Stop name task = (codes "name", name) ∷ []
page_params Restart name task = (codes "name", name) ∷ []
page_params Status name task = (codes "name", name) ∷ []
page_params Tasks name task = (codes "name", name) ∷ []
page_params TaskRestart name task = (codes "name", name) ∷ (codes "task", task) ∷ []
page_params TaskStatus name task = (codes "name", name) ∷ (codes "task", task) ∷ []

-- where the names of a page's parameters stand in its text
abbrev pub page_names : Page → List (ℕ × ℕ)
page_names Connectors = []
page_names Plugins = []
page_names Connector = (13, 17) ∷ []
page_names Config = (13, 17) ∷ []
page_names Offsets = (13, 17) ∷ []
page_names Pause = (13, 17) ∷ []
page_names Resume = (13, 17) ∷ []
page_names Stop = (13, 17) ∷ []
page_names Restart = (13, 17) ∷ []
page_names Status = (13, 17) ∷ []
page_names Tasks = (13, 17) ∷ []
page_names TaskRestart = (13, 17) ∷ (26, 30) ∷ []
page_names TaskStatus = (13, 17) ∷ (26, 30) ∷ []

-- a page in the table: its pattern has a token in place of each parameter
abbrev pub page_route : Page → RouteOf Page
page_route page = record {
  pattern = page_path page (param_token ∷ []) (param_token ∷
      []);
  text = page_text page;
  names = page_names page;
  value = page;
}

-- the rows of pages
abbrev pub rows_of : List Page → RowsOf (RouteOf Page)
rows_of [] = []
rows_of (page ∷ rest) = ((page_route page).pattern, page_route page) ∷ rows_of rest

-- the table
abbrev pub table : RowsOf (RouteOf Page)
table = rows_of pages

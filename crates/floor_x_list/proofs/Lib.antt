pub mod XListLaws
